-- Strings and binary: `string_coercion`, `binary_coercion`.
use Rattle.std.specs.Prelude.{ℕ, Bool, cond, ◌&&◌, ◌||◌, eqb}
use Rattle.std.specs.Prelude.{Option, None, Some}
use Rattle.sheet.specs.declared.kind.TheConstants as Kind
use Rattle.sheet.specs.Kind.{is_string, one_is, with_kind}

-- `string_coercion`, on kinds
unfoldable pub string_coercion : ℕ → ℕ → Option ℕ
string_coercion k j =
    cond (is_string k && is_string j)
    (cond (one_is Kind.UTF8_VIEW k j) (Some Kind.UTF8_VIEW) (cond (one_is Kind.LARGE_UTF8 k j) (Some Kind.LARGE_UTF8) (Some Kind.UTF8)))
    None

-- Utf8View or LargeUtf8, with which Binary becomes LargeBinary
abbrev pub is_long_string : ℕ → Bool
is_long_string k = eqb k Kind.LARGE_UTF8 || eqb k Kind.UTF8_VIEW

abbrev pub is_binary_or_string : ℕ → Bool
is_binary_or_string k = eqb k Kind.BINARY || is_string k

-- `binary_coercion`, on kinds
unfoldable pub binary_coercion : ℕ → ℕ → Option ℕ
binary_coercion k j =
    cond (eqb k Kind.BINARY && eqb j Kind.BINARY) (Some Kind.BINARY)
    (cond (eqb k Kind.LARGE_BINARY && eqb j Kind.LARGE_BINARY) (Some Kind.LARGE_BINARY)
    (cond (eqb k Kind.BINARY_VIEW && eqb j Kind.BINARY_VIEW) (Some Kind.BINARY_VIEW)
    (cond (with_kind Kind.BINARY_VIEW (λ i. eqb i Kind.LARGE_BINARY || is_binary_or_string i) k j) (Some Kind.BINARY_VIEW)
    (cond (with_kind Kind.LARGE_BINARY is_binary_or_string k j) (Some Kind.LARGE_BINARY)
    (cond (with_kind Kind.BINARY is_long_string k j) (Some Kind.LARGE_BINARY)
    (cond (with_kind Kind.BINARY (λ i. eqb i Kind.UTF8) k j) (Some Kind.BINARY)
    (cond (with_kind Kind.BINARY (λ i. eqb i Kind.FIXED_SIZE_BINARY) k j) (Some Kind.BINARY)
    (cond (with_kind Kind.BINARY_VIEW (λ i. eqb i Kind.FIXED_SIZE_BINARY) k j) (Some Kind.BINARY_VIEW) None))))))))

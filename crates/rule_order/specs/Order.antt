-- The order in which the merge tries the rules of the source; proofs/Orders.antt says that it gives the source's
-- answers. `coerce` is the source's `coerce_fn`.
use Rattle.std.specs.Prelude.{ℕ, cond, ◌&&◌, ◌||◌, eqb}
use Rattle.std.specs.Prelude.{Option, None, Some}
use Rattle.sheet.specs.declared.kind.TheConstants as Kind
use Rattle.coercion.specs.Data.{DataType, or_else, and_then}
use Rattle.sheet.specs.Kind.{is_list}
use Rattle.coercion.specs.Wrappers.{is_of, wrapper_coercion}
use Rattle.coercion.specs.Nested.{join_fields, list_shape, list_of, list_coercion, struct_coercion, map_coercion, entry_type, entry_of, map_shape}
use Rattle.coercion.specs.Answers.{keep_dictionary, both_parts, run_ends_of, wrapped, list_struct}
use Rattle.coercion.specs.declared.Question.{Question}
use Rattle.coercion.specs.declared.Rules.{Rules}
use Rattle.plain.specs.Plain.{plain_rules}
use Rattle.wrappers.specs.Walks.{chosen_kind}

-- the rule for two Structs
abbrev pub struct_rule : Question → (DataType → DataType → Option DataType) → DataType → DataType → Option DataType
struct_rule Question.List coerce l r = list_struct coerce l r
struct_rule Question.Union coerce l r = struct_coercion coerce l r
struct_rule Question.Compare coerce l r = struct_coercion coerce l r

-- two types that are no wrappers
unfoldable pub nested_of : Rules → (DataType → DataType → Option DataType) → DataType → DataType → Option DataType
nested_of rules coerce l r =
    cond (is_list l.shape.kind && is_list r.shape.kind) (list_coercion coerce l r)
    (cond (is_of Kind.STRUCT l && is_of Kind.STRUCT r) (struct_rule rules.question coerce l r)
    (cond (is_of Kind.MAP l && is_of Kind.MAP r) (map_coercion coerce l r) (plain_rules rules l r)))

-- two lists, and two maps
abbrev pub list_rule : (DataType → DataType → Option DataType) → DataType → DataType → Option DataType
list_rule coerce l r = list_of (list_shape l.shape r.shape) (join_fields coerce l.parts r.parts r.parts)

abbrev pub map_rule : (DataType → DataType → Option DataType) → DataType → DataType → Option DataType
map_rule coerce l r =
    and_then (entry_type l.parts)
    (λ a. and_then (entry_type r.parts)
    (λ b. and_then (struct_coercion coerce a b)
    (λ t. Some (record { shape = map_shape (l.shape.sorted && r.shape.sorted); parts = entry_of l.parts t }))))

-- a wrapper of a kind about another value
abbrev pub rewrap : ℕ → DataType → DataType → Option DataType
rewrap k d t = cond (eqb k Kind.DICTIONARY) (keep_dictionary d t) (run_ends_of d d.parts t)

-- two wrappers, part by part, under the left's names and nullability
abbrev pub both_wrapped : (DataType → DataType → Option DataType) → DataType → DataType → Option DataType
both_wrapped coerce l r = list_of l.shape (join_fields coerce l.parts r.parts l.parts)

-- a wrapper of a kind and another type
abbrev pub rewrapped : ℕ → (DataType → DataType → Option DataType) → DataType → DataType → Option DataType
rewrapped k coerce l r = wrapped coerce l r (rewrap k)

-- a list's types of which one at least is a wrapper of a kind
unfoldable pub either_wrapped : ℕ → (DataType → DataType → Option DataType) → DataType → DataType → Option DataType
either_wrapped k coerce l r =
    cond (is_of k l) (cond (is_of k r) (both_parts coerce l l.parts r.parts) (wrapped coerce l r (rewrap k)))
    (cond (is_of k r) (wrapped coerce r l (rewrap k)) None)

-- a list's types that are not the same
unfoldable pub resolved : Rules → (DataType → DataType → Option DataType) → DataType → DataType → Option DataType
resolved rules coerce l r =
    cond (is_of Kind.DICTIONARY l || is_of Kind.DICTIONARY r) (either_wrapped Kind.DICTIONARY coerce l r)
    (cond (is_of Kind.RUN_END_ENCODED l || is_of Kind.RUN_END_ENCODED r) (either_wrapped Kind.RUN_END_ENCODED coerce l r) (nested_of rules coerce l r))

-- the one of the two rules for wrappers that is asked
abbrev pub wrapper_rule : Rules → (DataType → DataType → Option DataType) → DataType → DataType → Option DataType
wrapper_rule rules coerce l r = wrapper_coercion (chosen_kind rules.mask l r) coerce l r

-- two types of a union or a comparison that are not alike
unfoldable pub unwrapped : Rules → (DataType → DataType → Option DataType) → DataType → DataType → Option DataType
unwrapped rules coerce l r =
    or_else (wrapper_coercion Kind.DICTIONARY coerce l r) (or_else (wrapper_coercion Kind.RUN_END_ENCODED coerce l r) (nested_of rules coerce l r))

-- the turns of a question
abbrev pub turns_for : Question → Rules → (DataType → DataType → Option DataType) → DataType → DataType → Option DataType
turns_for Question.List rules coerce l r = resolved rules coerce l r
turns_for Question.Union rules coerce l r = unwrapped rules coerce l r
turns_for Question.Compare rules coerce l r = unwrapped rules coerce l r

abbrev pub turns_of : Rules → (DataType → DataType → Option DataType) → DataType → DataType → Option DataType
turns_of rules coerce l r = turns_for rules.question rules coerce l r

use native.Mathlib.Omega.{arith}
use mathlib.Core.Path.{refl, sym, ◌∙◌}
use mathlib.Core.Logic.{⊎_elim}
use borrow.Author.Tests.{eq-eqb, ne_eqb}
use Rattle.buffers.proofs.Chained.{room_kept}
use Rattle.buffers.proofs.Tying.{tied_kept}
use Rattle.merge.proofs.Asking.{handed, coerce_same, coerce_plain, coerce_bare, coerce_list, coerce_pair, coerce_unlike, coerce_wrapper}
use Rattle.merge.proofs.Descending.{passes_wrapper}
use Rattle.merge.proofs.Joining.{rows_end, rows_spent, rows_unfed, rows_crowded, rows_stopped, rows_rest_stopped, rows_done}
use Rattle.merge.proofs.Merging.{any_known, any_hint, none_hint, tabled_over}
use Rattle.merge.proofs.Names.{stopped, goal_ready}
use Rattle.merge.proofs.Parents.{head_stopped, both_on, field_alone, field_on, map_left_end, map_right_end, map_on, after_passes, under_on}
use Rattle.merge.proofs.Rewrapping.{span_stopped, core_stopped, settled_on, settled_tabled}
use Rattle.merge.proofs.Pairing.{fed_or_placed, struct_none, struct_other, struct_merged, listed_unlike, listed_none, listed_fed}
use Rattle.merge.proofs.Turning.{both_true, left_false, right_false, both_are, not_both, one_is, none_is, both_below, resolve_dictionary, resolve_runs, resolve_nested, wrap_both, wrap_left, wrap_right, wrap_none, unwrap_done, unwrap_full, unwrap_nested, way_merged, way_spent, wrapper_none, wrapper_both, wrapper_left_same, wrapper_left, wrapper_right_same, wrapper_right, nested_list, nested_listed, nested_struct, nested_map, nested_plain, list_merged}
use Rattle.merge.proofs.Merger.+merging.Goals.{nested-else-is_list-via-else-is_list, nested-else-is_list-via-then-is_list+else-is_list-2, struct_coercion-else-x-eq-STRUCT-via-else-x-eq-STRUCT, struct_coercion-else-x-eq-STRUCT-via-then-x-eq-STRUCT+else-y-eq-STRUCT, struct_coercion-else-x-eq-STRUCT-via-then-x-eq-STRUCT+then-y-eq-STRUCT+else-same_arity}
use Rattle.merge.proofs.Merger.+merging.Goals as goal

pub both_parts-returns-in_err-d-clause-merges_known : goal.both_parts-returns-in_err-d-clause-merges_known
both_parts-returns-in_err-d-clause-merges_known t c =
    rw (stopped _ c.from_residual.ensures.1) (any_known _ c.args.self.now.sides.swap (head_stopped _ _ _ _ _ _ _ _ _ _ c.heads.ensures.left.0 _ _ c.in_err-d.ensures))

pub both_parts-returns-in_err-d-clause-stays_tabled : goal.both_parts-returns-in_err-d-clause-stays_tabled
both_parts-returns-in_err-d-clause-stays_tabled t c =
    tabled_over c.requires.room.0 c.copy_head.ensures.kept c.requires.tabled

pub both_parts-rows-requires : goal.both_parts-rows-requires
both_parts-rows-requires t c =
    (omega (arith, c.decreases), ((room_kept c.copy_head.ensures.kept c.requires.room.0, c.in_ok-d.ensures.passes.0), tabled_over c.requires.room.0 c.copy_head.ensures.kept c.requires.tabled))

pub both_parts-returns-clause-merges_known : goal.both_parts-returns-clause-merges_known
both_parts-returns-clause-merges_known t c =
    both_on c.args.known.now.differs _ _ _ _ _ _ _ _ _ c.requires.room.0 _ _ c.heads.ensures.left.0 c.heads.ensures.right.0 _ _ _ _ c.in_ok-d.ensures c.rows.ensures.rowed

pub coerce_field-returns-in_err-g-clause-stays_tabled : goal.coerce_field-returns-in_err-g-clause-stays_tabled
coerce_field-returns-in_err-g-clause-stays_tabled t c =
    tabled_over c.requires.room.0 c.name_target.ensures.named.kept c.requires.tabled

pub coerce_field-coerce_value-requires : goal.coerce_field-coerce_value-requires
coerce_field-coerce_value-requires t c =
    (omega (arith, c.decreases), ((room_kept c.name_target.ensures.named.kept c.requires.room.0, goal_ready c.requires.room.1 c.head-x.ensures.1 c.in_ok-g.ensures), (c.requires.of_list, tabled_over c.requires.room.0 c.name_target.ensures.named.kept c.requires.tabled)))

pub coerce_field-returns-clause-merges_field : goal.coerce_field-returns-clause-merges_field
coerce_field-returns-clause-merges_field t c =
    field_alone _ _ _ _ _ _ _ _ _ _ c.head-x.ensures.0 _ _ c.in_ok-g.ensures.named _ _ _ c.requires.room.0 refl c.nullable.ensures (rw c.in_ok-g.ensures.goal at c.coerce_value.ensures.merges)

pub coerce_value-rewrapped-requires : goal.coerce_value-rewrapped-requires
coerce_value-rewrapped-requires t c =
    (omega (arith, c.decreases, c.if-left-eq0.false), (c.requires.room, (c.requires.of_list, ((passes_wrapper c.kinds-k.result.0 c.kinds-k.result.1 (sym c.passes.ensures ∙ c.if-passes.true), sym c.kinds-k.ensures.left), c.requires.tabled))))

pub coerce_value-returns-then-passes-clause-merges : goal.coerce_value-returns-then-passes-clause-merges
coerce_value-returns-then-passes-clause-merges t c =
    coerce_wrapper c.args.self.now.rules c.args.self.now.sides.space c.args.left c.args.self.now.sides.swap _ _ _ _ _ c.kinds-k.ensures.left c.kinds-k.ensures.right (sym c.passes.ensures ∙ c.if-passes.true) _ _ c.requires.of_list c.rewrapped.ensures.merges

pub coerce_value-returns-then-j-lt-LIST-clause-merges : goal.coerce_value-returns-then-j-lt-LIST-clause-merges
coerce_value-returns-then-j-lt-LIST-clause-merges t c =
    coerce_unlike c.args.self.now.rules c.args.self.now.sides.space c.args.left c.args.self.now.sides.swap _ _ _ _ _ c.kinds-k.ensures.left c.kinds-k.ensures.right c.if-k-j.true _ _ (both_below c.if-k-lt-LIST.true c.if-j-lt-LIST.true) c.plain_rule.ensures

pub coerce_value-returns-then-j-lt-LIST-clause-stays_tabled : goal.coerce_value-returns-then-j-lt-LIST-clause-stays_tabled
coerce_value-returns-then-j-lt-LIST-clause-stays_tabled t c =
    tabled_over c.requires.room.0 (c.plain_rule.ensures 0).writes.kept c.requires.tabled

pub common-returns-then-d-eq0-clause-merges_hinted : goal.common-returns-then-d-eq0-clause-merges_hinted
common-returns-then-d-eq0-clause-merges_hinted t c =
    any_hint _ _ c.args.self.now.sides.swap (coerce_same c.args.self.now.rules c.args.self.now.sides.space c.args.known.now.left c.args.self.now.sides.swap _ _ _ _ _ refl c.first_difference-d.ensures _ _ c.if-d-eq0.true c.copy_type.ensures)

pub common-returns-then-d-eq0-clause-stays_tabled : goal.common-returns-then-d-eq0-clause-stays_tabled
common-returns-then-d-eq0-clause-stays_tabled t c =
    tabled_over c.requires.room.0 c.copy_type.ensures.writes.kept c.requires.tabled

pub common-returns-then-j-lt-LIST-clause-merges_hinted : goal.common-returns-then-j-lt-LIST-clause-merges_hinted
common-returns-then-j-lt-LIST-clause-merges_hinted t c =
    any_hint _ _ c.args.self.now.sides.swap (coerce_plain c.args.self.now.rules c.args.self.now.sides.space c.args.known.now.left c.args.self.now.sides.swap _ _ _ _ _ (handed c.args.known.now.differs _ _ refl c.first_difference-d.ensures c.if-d-eq0.false) _ _ c.kinds-k.ensures.left c.kinds-k.ensures.right (both_below c.if-k-lt-LIST.true c.if-j-lt-LIST.true) c.plain_rule.ensures)

pub common-returns-then-j-lt-LIST-clause-stays_tabled : goal.common-returns-then-j-lt-LIST-clause-stays_tabled
common-returns-then-j-lt-LIST-clause-stays_tabled t c =
    tabled_over c.requires.room.0 (c.plain_rule.ensures 0).writes.kept c.requires.tabled

pub common-returns-then-j-lt-DICTIONARY-clause-merges_hinted : goal.common-returns-then-j-lt-DICTIONARY-clause-merges_hinted
common-returns-then-j-lt-DICTIONARY-clause-merges_hinted t c =
    any_hint _ _ c.args.self.now.sides.swap (coerce_bare c.args.self.now.rules c.args.self.now.sides.space c.args.known.now.left c.args.self.now.sides.swap _ _ _ _ _ (handed c.args.known.now.differs _ _ refl c.first_difference-d.ensures c.if-d-eq0.false) _ _ c.kinds-k.ensures.left c.kinds-k.ensures.right (both_below c.if-k-lt-DICTIONARY.true c.if-j-lt-DICTIONARY.true) c.if-known-eq0.false c.nested.ensures.merges_known)

pub common-returns-then-is_list_question-clause-merges_hinted : goal.common-returns-then-is_list_question-clause-merges_hinted
common-returns-then-is_list_question-clause-merges_hinted t c =
    any_hint _ _ c.args.self.now.sides.swap (coerce_list c.args.self.now.rules c.args.self.now.sides.space c.args.known.now.left c.args.self.now.sides.swap _ _ _ _ _ (handed c.args.known.now.differs _ _ refl c.first_difference-d.ensures c.if-d-eq0.false) _ _ (sym c.is_list_question.ensures ∙ c.if-is_list_question.true) c.if-known-eq0.false c.type_union_resolution_coercion.ensures.merges_known)

pub common-returns-clause-merges_hinted : goal.common-returns-clause-merges_hinted
common-returns-clause-merges_hinted t c =
    coerce_pair c.args.self.now.rules c.args.self.now.sides.space c.args.known.now.left c.args.self.now.sides.swap _ _ _ _ _ (handed c.args.known.now.differs _ _ refl c.first_difference-d.ensures c.if-d-eq0.false) _ _ (sym c.is_list_question.ensures ∙ c.if-is_list_question.false) c.if-known-eq0.false c.unwrap.ensures.merges_hinted

pub entry-returns-in_err-g-clause-stays_tabled : goal.entry-returns-in_err-g-clause-stays_tabled
entry-returns-in_err-g-clause-stays_tabled t c =
    tabled_over c.requires.room.0 c.name_target.ensures.named.kept c.requires.tabled

pub entry-struct_coercion-requires : goal.entry-struct_coercion-requires
entry-struct_coercion-requires t c =
    (omega (arith, c.decreases), ((room_kept c.name_target.ensures.named.kept c.requires.room.0, goal_ready c.requires.room.1 c.head-x.ensures.1 c.in_ok-g.ensures), tabled_over c.requires.room.0 c.name_target.ensures.named.kept c.requires.tabled))

pub entry-returns-clause-merges_field : goal.entry-returns-clause-merges_field
entry-returns-clause-merges_field t c =
    field_on _ _ _ _ _ _ _ _ _ _ c.head-x.ensures.0 _ _ c.in_ok-g.ensures.named _ _ _ c.requires.room.0 refl c.nullable.ensures c.row_known-own.ensures (rw c.in_ok-g.ensures.goal at c.struct_coercion.ensures.merges_known)

pub list_coercion-returns-clause-merges_known : goal.list_coercion-returns-clause-merges_known
list_coercion-returns-clause-merges_known t c =
    list_merged _ _ _ c.args.self.now.sides.swap _ _ _ _ _ _ _ c.heads.ensures.left.0 c.heads.ensures.right.0 c.list_kind.ensures c.list_size.ensures.0 _ _ (rw c.of_kind.ensures at (rw c.from.ensures at c.under.ensures.under))

pub list_struct-returns-then-not-same_arity-clause-merges_known : goal.list_struct-returns-then-not-same_arity-clause-merges_known
list_struct-returns-then-not-same_arity-clause-merges_known t c =
    listed_unlike _ _ _ c.args.self.now.sides.swap _ _ _ _ _ _ _ c.heads.ensures.left.0 c.heads.ensures.right.0 c.same_arity.ensures c.if-not-same_arity.true

pub list_struct-returns-in-Some-clause-merges_known : goal.list_struct-returns-in-Some-clause-merges_known
list_struct-returns-in-Some-clause-merges_known t c =
    listed_fed _ _ _ c.args.self.now.sides.swap _ _ _ _ _ _ _ c.heads.ensures.left.0 c.heads.ensures.right.0 c.same_arity.ensures c.if-not-same_arity.false c.args.known.now.differs _ c.in-Some.ensures.struct_fed c.requires.structs.0 c.requires.structs.1 _ _ (rw c.of_kind.ensures at (rw c.from-shape.ensures at c.under.ensures.under))

pub list_struct-returns-in-None-clause-merges_known : goal.list_struct-returns-in-None-clause-merges_known
list_struct-returns-in-None-clause-merges_known t c =
    listed_none _ _ _ c.args.self.now.sides.swap _ _ _ _ _ _ _ c.heads.ensures.left.0 c.heads.ensures.right.0 c.same_arity.ensures c.if-not-same_arity.false c.args.known.now.differs _ c.in-None.ensures.struct_fed

pub map_coercion-returns-then-a-eq0-clause-merges_known : goal.map_coercion-returns-then-a-eq0-clause-merges_known
map_coercion-returns-then-a-eq0-clause-merges_known t c =
    ⊎_elim (map_left_end _ _ _ _ _ _ _ _ _ _ _ c.heads.ensures.left.0 c.heads.ensures.right.0) (λ e. map_right_end _ _ _ _ _ _ _ _ _ _ _ c.heads.ensures.left.0 c.heads.ensures.right.0 e.1) c.then-a-eq0.either

pub map_coercion-entry-requires : goal.map_coercion-entry-requires
map_coercion-entry-requires t c =
    (omega (arith, c.decreases), ((room_kept c.lay.ensures.kept c.requires.room.0, (after_passes _ c.requires.room.1 c.if-self-at.false).0), tabled_over c.requires.room.0 c.lay.ensures.kept c.requires.tabled))

pub map_coercion-returns-clause-merges_known : goal.map_coercion-returns-clause-merges_known
map_coercion-returns-clause-merges_known t c =
    map_on _ _ _ _ _ _ _ _ _ _ _ c.heads.ensures.left.0 c.heads.ensures.right.0 c.requires.room.0 c.requires.room.1 c.if-self-at.false _ _ _ _ c.are_sorted.ensures c.if-a-eq0.false c.if-b-eq0.false (rw c.of_kind.ensures at (rw c.from.ensures at c.lay.ensures)) c.args.known.now.differs _ c.entry.ensures.merges_field

pub nested-returns-then-is_list-2-clause-merges_known : goal.nested-returns-then-is_list-2-clause-merges_known
nested-returns-then-is_list-2-clause-merges_known t c =
    nested_list c.args.known.now.differs _ _ _ _ _ c.args.self.now.sides.swap _ _ _ _ _ c.kinds-k.ensures.left c.kinds-k.ensures.right _ _ (both_true (sym c.is_list.ensures ∙ c.if-is_list.true) (sym c.is_list-then-is_list.ensures ∙ c.if-is_list-2.true)) c.list_coercion.ensures.merges_known

pub nested-returns-then-is_list_question-clause-merges_known : goal.nested-returns-then-is_list_question-clause-merges_known
nested-returns-then-is_list_question-clause-merges_known t c =
    nested_listed c.args.known.now.differs _ _ _ _ _ c.args.self.now.sides.swap _ _ _ _ _ c.kinds-k.ensures.left c.kinds-k.ensures.right _ _ (elim c.else-is_list.branch [ nested-else-is_list-via-then-is_list+else-is_list-2 w ↦ right_false _ (sym w.is_list-then-is_list.ensures ∙ w.if-is_list-2.false) | nested-else-is_list-via-else-is_list w ↦ left_false _ (sym c.is_list.ensures ∙ w.if-is_list.false) ]) (both_are c.if-k-eq-STRUCT.true c.if-j-eq-STRUCT.true) (sym c.is_list_question.ensures ∙ c.if-is_list_question.true) c.list_struct.ensures.merges_known

pub nested-returns-then-j-eq-STRUCT-clause-merges_known : goal.nested-returns-then-j-eq-STRUCT-clause-merges_known
nested-returns-then-j-eq-STRUCT-clause-merges_known t c =
    nested_struct c.args.known.now.differs _ _ _ _ _ c.args.self.now.sides.swap _ _ _ _ _ c.kinds-k.ensures.left c.kinds-k.ensures.right _ _ (elim c.else-is_list.branch [ nested-else-is_list-via-then-is_list+else-is_list-2 w ↦ right_false _ (sym w.is_list-then-is_list.ensures ∙ w.if-is_list-2.false) | nested-else-is_list-via-else-is_list w ↦ left_false _ (sym c.is_list.ensures ∙ w.if-is_list.false) ]) (both_are c.if-k-eq-STRUCT.true c.if-j-eq-STRUCT.true) (sym c.is_list_question.ensures ∙ c.if-is_list_question.false) c.struct_coercion.ensures.merges_known

pub nested-returns-then-j-eq-MAP-clause-merges_known : goal.nested-returns-then-j-eq-MAP-clause-merges_known
nested-returns-then-j-eq-MAP-clause-merges_known t c =
    nested_map c.args.known.now.differs _ _ _ _ _ c.args.self.now.sides.swap _ _ _ _ _ c.kinds-k.ensures.left c.kinds-k.ensures.right _ _ (elim c.else-is_list.branch [ nested-else-is_list-via-then-is_list+else-is_list-2 w ↦ right_false _ (sym w.is_list-then-is_list.ensures ∙ w.if-is_list-2.false) | nested-else-is_list-via-else-is_list w ↦ left_false _ (sym c.is_list.ensures ∙ w.if-is_list.false) ]) (not_both c.else-k-eq-STRUCT.either) (both_are c.if-k-eq-MAP.true c.if-j-eq-MAP.true) c.map_coercion.ensures.merges_known

pub nested-returns-clause-merges_known : goal.nested-returns-clause-merges_known
nested-returns-clause-merges_known t c =
    nested_plain c.args.known.now.differs _ _ _ _ _ c.args.self.now.sides.swap _ _ _ _ _ c.kinds-k.ensures.left c.kinds-k.ensures.right _ _ (elim c.else-is_list.branch [ nested-else-is_list-via-then-is_list+else-is_list-2 w ↦ right_false _ (sym w.is_list-then-is_list.ensures ∙ w.if-is_list-2.false) | nested-else-is_list-via-else-is_list w ↦ left_false _ (sym c.is_list.ensures ∙ w.if-is_list.false) ]) (not_both c.else-k-eq-STRUCT.either) (not_both c.else-k-eq-MAP.either) c.plain_rule.ensures

pub nested-returns-clause-stays_tabled : goal.nested-returns-clause-stays_tabled
nested-returns-clause-stays_tabled t c =
    tabled_over c.requires.room.0 (c.plain_rule.ensures 0).writes.kept c.requires.tabled

pub type_union_resolution_coercion-returns-then-k-eq-DICTIONARY-clause-merges_known : goal.type_union_resolution_coercion-returns-then-k-eq-DICTIONARY-clause-merges_known
type_union_resolution_coercion-returns-then-k-eq-DICTIONARY-clause-merges_known t c =
    resolve_dictionary c.args.known.now.differs _ _ _ _ _ c.args.self.now.sides.swap _ _ _ _ _ c.kinds-k.ensures.left c.kinds-k.ensures.right _ _ (one_is c.then-k-eq-DICTIONARY.either) c.resolve_wrapper.ensures.merges_known

pub type_union_resolution_coercion-returns-then-k-eq-RUN_END_ENCODED-clause-merges_known : goal.type_union_resolution_coercion-returns-then-k-eq-RUN_END_ENCODED-clause-merges_known
type_union_resolution_coercion-returns-then-k-eq-RUN_END_ENCODED-clause-merges_known t c =
    resolve_runs c.args.known.now.differs _ _ _ _ _ c.args.self.now.sides.swap _ _ _ _ _ c.kinds-k.ensures.left c.kinds-k.ensures.right _ _ (none_is c.if-k-eq-DICTIONARY.false c.if-j-eq-DICTIONARY.false) (one_is c.then-k-eq-RUN_END_ENCODED.either) c.resolve_wrapper-then-k-eq-RUN_END_ENCODED.ensures.merges_known

pub type_union_resolution_coercion-returns-clause-merges_known : goal.type_union_resolution_coercion-returns-clause-merges_known
type_union_resolution_coercion-returns-clause-merges_known t c =
    resolve_nested c.args.known.now.differs _ _ _ _ _ c.args.self.now.sides.swap _ _ _ _ _ c.kinds-k.ensures.left c.kinds-k.ensures.right _ _ (none_is c.if-k-eq-DICTIONARY.false c.if-j-eq-DICTIONARY.false) (none_is c.if-k-eq-RUN_END_ENCODED.false c.if-j-eq-RUN_END_ENCODED.false) c.nested.ensures.merges_known

pub resolve_wrapper-returns-then-j-kind-clause-merges_known : goal.resolve_wrapper-returns-then-j-kind-clause-merges_known
resolve_wrapper-returns-then-j-kind-clause-merges_known t c =
    wrap_both c.args.known.now.differs _ _ _ c.args.self.now.sides.swap _ _ _ _ _ c.kinds-k.ensures.left c.kinds-k.ensures.right c.requires.wrapper _ _ c.if-k-kind.true c.if-j-kind.true c.both_parts.ensures.merges_known

pub resolve_wrapper-returns-then-k-kind-clause-merges_known : goal.resolve_wrapper-returns-then-k-kind-clause-merges_known
resolve_wrapper-returns-then-k-kind-clause-merges_known t c =
    wrap_left c.args.known.now.differs _ _ _ c.args.self.now.sides.swap _ _ _ _ _ c.kinds-k.ensures.left c.kinds-k.ensures.right c.requires.wrapper _ _ c.if-k-kind.true c.if-j-kind.false (any_known _ c.args.self.now.sides.swap c.rewrapped.ensures.merges)

pub resolve_wrapper-returns-then-j-kind-2-clause-merges_known : goal.resolve_wrapper-returns-then-j-kind-2-clause-merges_known
resolve_wrapper-returns-then-j-kind-2-clause-merges_known t c =
    wrap_right c.args.known.now.differs _ _ _ c.args.self.now.sides.swap _ _ _ _ _ c.kinds-k.ensures.left c.kinds-k.ensures.right c.requires.wrapper _ _ c.if-k-kind.false c.if-j-kind-2.true (rw c.swapped.ensures at c.rewrapped-then-j-kind-2.ensures.merges)

pub resolve_wrapper-returns-clause-merges_known : goal.resolve_wrapper-returns-clause-merges_known
resolve_wrapper-returns-clause-merges_known t c =
    wrap_none c.args.known.now.differs _ _ _ c.args.self.now.sides.swap _ _ _ _ _ c.kinds-k.ensures.left c.kinds-k.ensures.right c.requires.wrapper c.if-k-kind.false c.if-j-kind-2.false

pub rewrapped-returns-in_err-a-clause-merges : goal.rewrapped-returns-in_err-a-clause-merges
rewrapped-returns-in_err-a-clause-merges t c =
    rw (stopped _ c.from_residual.ensures.1) (head_stopped _ _ _ _ _ _ _ _ _ _ c.head-x.ensures.0 _ _ c.in_err-a.ensures)

pub rewrapped-returns-in_err-a-clause-stays_tabled : goal.rewrapped-returns-in_err-a-clause-stays_tabled
rewrapped-returns-in_err-a-clause-stays_tabled t c =
    tabled_over c.requires.room.0 c.copy_parent.ensures.kept c.requires.tabled

pub rewrapped-returns-in_err-b-clause-merges : goal.rewrapped-returns-in_err-b-clause-merges
rewrapped-returns-in_err-b-clause-merges t c =
    rw (stopped _ c.from_residual-in_err-b.ensures.1) (span_stopped _ c.requires.of_list _ _ _ _ _ _ _ _ _ c.requires.room.0 c.requires.wrapper.0 _ c.head-x.ensures.0 c.requires.wrapper.1 _ c.descend-descent.ensures.descended _ _ c.in_ok-a.ensures _ _ c.in_err-b.ensures)

pub rewrapped-returns-in_err-b-clause-stays_tabled : goal.rewrapped-returns-in_err-b-clause-stays_tabled
rewrapped-returns-in_err-b-clause-stays_tabled t c =
    tabled_over c.requires.room.0 c.copy_span.ensures.kept (tabled_over c.requires.room.0 c.copy_parent.ensures.kept c.requires.tabled)

pub rewrapped-coerce_field-requires : goal.rewrapped-coerce_field-requires
rewrapped-coerce_field-requires t c =
    (omega (arith, c.decreases), ((room_kept c.copy_span.ensures.kept (room_kept c.copy_parent.ensures.kept c.requires.room.0), c.in_ok-b.ensures.grows.0), (c.requires.of_list, tabled_over c.requires.room.0 c.copy_span.ensures.kept (tabled_over c.requires.room.0 c.copy_parent.ensures.kept c.requires.tabled))))

pub rewrapped-returns-in_err-e-clause-merges : goal.rewrapped-returns-in_err-e-clause-merges
rewrapped-returns-in_err-e-clause-merges t c =
    rw (stopped _ c.from_residual-in_err-e.ensures.1) (core_stopped _ c.requires.of_list _ _ _ _ _ _ _ _ _ c.requires.room.0 c.requires.wrapper.0 _ c.head-x.ensures.0 c.requires.wrapper.1 _ c.descend-descent.ensures.descended _ _ c.in_ok-a.ensures _ _ c.in_ok-b.ensures _ _ c.in_err-e.ensures.merges_field)

pub rewrapped-returns-clause-merges : goal.rewrapped-returns-clause-merges
rewrapped-returns-clause-merges t c =
    settled_on _ c.requires.of_list _ _ _ _ _ _ _ _ _ c.requires.room.0 c.requires.wrapper.0 _ c.head-x.ensures.0 c.requires.wrapper.1 _ c.descend-descent.ensures.descended _ _ c.in_ok-a.ensures _ _ c.in_ok-b.ensures _ _ c.in_ok-e.ensures.merges_field _ _ c.drop_redundant_dictionaries.ensures

pub rewrapped-returns-clause-stays_tabled : goal.rewrapped-returns-clause-stays_tabled
rewrapped-returns-clause-stays_tabled t c =
    settled_tabled _ c.requires.of_list _ _ _ _ _ _ _ _ _ c.requires.room.0 c.requires.wrapper.0 _ c.head-x.ensures.0 c.requires.wrapper.1 _ c.descend-descent.ensures.descended _ _ c.in_ok-a.ensures _ _ c.in_ok-b.ensures _ _ c.in_ok-e.ensures.merges_field _ _ c.drop_redundant_dictionaries.ensures c.coerce_field.ensures.stays_tabled

pub rows-returns-then-l-eq0-clause-rowed : goal.rows-returns-then-l-eq0-clause-rowed
rows-returns-then-l-eq0-clause-rowed t c =
    rows_end c.args.known.now.differs _ _ c.args.self.now.sides.space c.args.known.now.left c.args.self.now.sides.swap _ _ c.args.feed _ _ _ _ _ c.requires.room.1 c.if-l-eq0.true c.row_end.ensures

pub first_row-returns-then-known-eq0-clause-rowed : goal.first_row-returns-then-known-eq0-clause-rowed
first_row-returns-then-known-eq0-clause-rowed t c =
    rows_spent c.args.known.now.differs _ _ c.args.self.now.sides.space c.args.known.now.left c.args.self.now.sides.swap _ _ c.args.feed _ _ _ _ c.requires.some c.if-known-eq0.true

pub first_row-returns-then-partner-eq0-clause-rowed : goal.first_row-returns-then-partner-eq0-clause-rowed
first_row-returns-then-partner-eq0-clause-rowed t c =
    rows_unfed c.args.known.now.differs _ _ c.args.self.now.sides.space c.args.known.now.left c.args.self.now.sides.swap _ _ c.args.feed _ _ _ _ _ c.requires.some (rw c.known_names-names.ensures at (c.row-row.ensures c.requires.tabled.partners)) c.if-partner-eq0.true

pub first_row-returns-in_err-g-clause-rowed : goal.first_row-returns-in_err-g-clause-rowed
first_row-returns-in_err-g-clause-rowed t c =
    rw (stopped _ c.from_residual.ensures.1) (rw c.in_err-g.ensures.goal (rows_crowded c.args.known.now.differs _ _ c.args.self.now.sides.space c.args.known.now.left c.args.self.now.sides.swap _ _ c.args.feed _ _ _ _ c.requires.room.0 c.requires.room.1 _ c.head-x.ensures.0 c.requires.some _ (rw c.known_names-names.ensures at (c.row-row.ensures c.requires.tabled.partners)) c.if-partner-eq0.false _ _ c.in_err-g.ensures.named refl))

pub first_row-returns-in_err-g-clause-stays_tabled : goal.first_row-returns-in_err-g-clause-stays_tabled
first_row-returns-in_err-g-clause-stays_tabled t c =
    tabled_over c.requires.room.0 c.name_target.ensures.named.kept c.requires.tabled

pub first_row-common-requires : goal.first_row-common-requires
first_row-common-requires t c =
    (omega (arith, c.decreases), ((room_kept c.name_target.ensures.named.kept c.requires.room.0, goal_ready c.requires.room.1 c.head-x.ensures.1 c.in_ok-g.ensures), tabled_over c.requires.room.0 c.name_target.ensures.named.kept c.requires.tabled))

pub first_row-returns-in_err-d-clause-rowed : goal.first_row-returns-in_err-d-clause-rowed
first_row-returns-in_err-d-clause-rowed t c =
    let one = none_hint c.args.self.now.sides.swap (rw c.in_ok-g.ensures.goal at c.in_err-d.ensures.merges_hinted) in
    rw (stopped _ c.from_residual-in_err-d.ensures.1) (rows_stopped c.args.known.now.differs _ _ c.args.self.now.sides.space c.args.known.now.left c.args.self.now.sides.swap _ _ c.args.feed _ _ _ _ c.requires.room.0 c.requires.room.1 _ c.head-x.ensures.0 c.requires.some _ (rw c.known_names-names.ensures at (c.row-row.ensures c.requires.tabled.partners)) c.if-partner-eq0.false _ _ c.in_ok-g.ensures.named _ c.row_known-own.ensures refl _ _ one)

pub first_row-returns-in_err-e-clause-rowed : goal.first_row-returns-in_err-e-clause-rowed
first_row-returns-in_err-e-clause-rowed t c =
    let one = none_hint c.args.self.now.sides.swap (rw c.in_ok-g.ensures.goal at c.in_ok-d.ensures.merges_hinted) in
    rw (stopped _ c.from_residual-in_err-e.ensures.1) (rows_rest_stopped c.args.known.now.differs _ _ c.args.self.now.sides.space c.args.known.now.left c.args.self.now.sides.swap _ _ c.args.feed _ _ _ _ c.requires.room.0 c.requires.room.1 _ c.head-x.ensures.0 c.requires.some _ (rw c.known_names-names.ensures at (c.row-row.ensures c.requires.tabled.partners)) c.if-partner-eq0.false _ _ c.in_ok-g.ensures.named _ c.row_known-own.ensures refl _ _ one _ _ c.in_err-e.ensures.rowed)

pub first_row-returns-clause-rowed : goal.first_row-returns-clause-rowed
first_row-returns-clause-rowed t c =
    let one = none_hint c.args.self.now.sides.swap (rw c.in_ok-g.ensures.goal at c.in_ok-d.ensures.merges_hinted) in
    rows_done c.args.known.now.differs _ _ c.args.self.now.sides.space c.args.known.now.left c.args.self.now.sides.swap _ _ c.args.feed _ _ _ _ c.requires.room.0 c.requires.room.1 _ c.head-x.ensures.0 c.requires.some _ (rw c.known_names-names.ensures at (c.row-row.ensures c.requires.tabled.partners)) c.if-partner-eq0.false _ _ c.in_ok-g.ensures.named _ c.row_known-own.ensures refl _ _ one _ _ _ _ c.in_ok-e.ensures.rowed c.next_link.ensures.0 c.tie.ensures

pub first_row-returns-clause-stays_tabled : goal.first_row-returns-clause-stays_tabled
first_row-returns-clause-stays_tabled t c =
    let one = none_hint c.args.self.now.sides.swap (rw c.in_ok-g.ensures.goal at c.in_ok-d.ensures.merges_hinted) in
    tabled_over c.requires.room.0 (tied_kept _ _ _ _ _ c.tie.ensures 0 (omega (arith, one.writes.passes.1.0, one.writes.passes.0.records))) c.rows.ensures.stays_tabled

pub struct_coercion-returns-then-same_arity-clause-merges_known : goal.struct_coercion-returns-then-same_arity-clause-merges_known
struct_coercion-returns-then-same_arity-clause-merges_known t c =
    struct_merged _ _ _ c.args.self.now.sides.swap _ _ _ _ _ _ _ c.heads.ensures.left.0 c.heads.ensures.right.0 c.same_arity.ensures (both_true (both_true (eq-eqb _ 35 c.if-x-eq-STRUCT.true) (eq-eqb _ 35 c.if-y-eq-STRUCT.true)) c.if-same_arity.true) c.args.known.now.differs _ (fed_or_placed c.unwrap_or-feed.ensures c.struct_feed.ensures.struct_fed) _ _ (rw c.of_kind.ensures at (rw c.from-shape.ensures at c.under.ensures.under))

pub struct_coercion-returns-clause-merges_known : goal.struct_coercion-returns-clause-merges_known
struct_coercion-returns-clause-merges_known t c =
    elim c.else-x-eq-STRUCT.branch [ struct_coercion-else-x-eq-STRUCT-via-then-x-eq-STRUCT+then-y-eq-STRUCT+else-same_arity w ↦ struct_none _ _ _ c.args.self.now.sides.swap _ _ _ _ _ _ _ c.heads.ensures.left.0 c.heads.ensures.right.0 w.same_arity.ensures (right_false _ w.if-same_arity.false) | struct_coercion-else-x-eq-STRUCT-via-then-x-eq-STRUCT+else-y-eq-STRUCT w ↦ struct_other _ _ _ c.args.self.now.sides.swap _ _ _ _ _ _ _ c.heads.ensures.left.0 c.heads.ensures.right.0 (right_false _ (ne_eqb _ 35 w.if-y-eq-STRUCT.false)) | struct_coercion-else-x-eq-STRUCT-via-else-x-eq-STRUCT w ↦ struct_other _ _ _ c.args.self.now.sides.swap _ _ _ _ _ _ _ c.heads.ensures.left.0 c.heads.ensures.right.0 (left_false _ (ne_eqb _ 35 w.if-x-eq-STRUCT.false)) ]

pub under-rows-requires : goal.under-rows-requires
under-rows-requires t c =
    (omega (arith, c.decreases), ((room_kept c.lay.ensures.kept c.requires.room.0.0, (after_passes _ c.requires.room.0.1 c.if-self-at.false).0), tabled_over c.requires.room.0.0 c.lay.ensures.kept c.requires.tabled))

pub under-returns-clause-under : goal.under-returns-clause-under
under-returns-clause-under t c =
    under_on _ _ _ _ _ _ _ _ _ _ _ _ _ _ c.requires.room.0.0 c.requires.room.0.1 c.if-self-at.false c.first_link.ensures.0 c.lay.ensures c.rows.ensures.rowed

pub unwrap-returns-in-Err-NoType-clause-merges_hinted : goal.unwrap-returns-in-Err-NoType-clause-merges_hinted
unwrap-returns-in-Err-NoType-clause-merges_hinted t c =
    unwrap_nested c.args.known.now.differs _ _ c.requires.of_pair _ _ c.args.self.now.sides.swap _ _ _ _ _ _ c.requires.room.0 _ _ (rw c.in-Err-NoType.field-0-is at c.in-Err-NoType.ensures.merges_hinted) c.nested.ensures.merges_known

pub unwrap-returns-in-Ok-clause-merges_hinted : goal.unwrap-returns-in-Ok-clause-merges_hinted
unwrap-returns-in-Ok-clause-merges_hinted t c =
    unwrap_done c.args.known.now.differs _ _ c.requires.of_pair _ _ c.args.self.now.sides.swap _ _ _ _ _ _ _ c.in-Ok.ensures.merges_hinted

pub unwrap-returns-in-Err-Full-clause-merges_hinted : goal.unwrap-returns-in-Err-Full-clause-merges_hinted
unwrap-returns-in-Err-Full-clause-merges_hinted t c =
    unwrap_full c.args.known.now.differs _ _ c.requires.of_pair _ _ c.args.self.now.sides.swap _ _ _ _ _ _ (rw c.in-Err-Full.field-0-is at c.in-Err-Full.ensures.merges_hinted)

pub wrapper-returns-in_default-clause-merges_hinted : goal.wrapper-returns-in_default-clause-merges_hinted
wrapper-returns-in_default-clause-merges_hinted t c =
    way_spent c.args.self.now.rules _ _ _ c.args.self.now.sides.swap _ _ _ _ _ c.in_default.ensures refl

pub wrapper-returns-then-j-kind-clause-merges_hinted : goal.wrapper-returns-then-j-kind-clause-merges_hinted
wrapper-returns-then-j-kind-clause-merges_hinted t c =
    way_merged c.args.self.now.rules _ _ _ c.args.self.now.sides.swap _ _ _ _ _ c.in-Some.ensures _ _ (wrapper_both _ _ _ c.args.self.now.sides.swap _ _ _ _ _ c.kinds-k.ensures.left c.kinds-k.ensures.right (c.in-Some.ensures.wrapper) _ _ c.args.self.now.rules.mask c.args.known.now.hint c.in-Some.t.hint (c.in-Some.ensures.on c.args.self.now.sides.space) c.args.known.now.differs _ c.value-a.ensures c.right_value-b.ensures c.if-k-kind.true c.if-j-kind.true c.row_known-own.ensures c.common.ensures.merges_hinted)

pub wrapper-returns-then-same_sides-clause-merges_hinted : goal.wrapper-returns-then-same_sides-clause-merges_hinted
wrapper-returns-then-same_sides-clause-merges_hinted t c =
    way_merged c.args.self.now.rules _ _ _ c.args.self.now.sides.swap _ _ _ _ _ c.in-Some.ensures _ _ (any_hint _ _ c.args.self.now.sides.swap (any_known _ c.args.self.now.sides.swap (wrapper_left_same _ _ _ c.args.self.now.sides.swap _ _ _ _ _ c.kinds-k.ensures.left c.kinds-k.ensures.right (c.in-Some.ensures.wrapper) _ _ c.if-k-kind.true c.if-j-kind.false c.value-a.ensures c.same_sides.ensures c.if-same_sides.true c.copy_type.ensures)))

pub wrapper-returns-then-same_sides-clause-stays_tabled : goal.wrapper-returns-then-same_sides-clause-stays_tabled
wrapper-returns-then-same_sides-clause-stays_tabled t c =
    tabled_over c.requires.room.0 c.copy_type.ensures.writes.kept c.requires.tabled

pub wrapper-returns-then-k-kind-clause-merges_hinted : goal.wrapper-returns-then-k-kind-clause-merges_hinted
wrapper-returns-then-k-kind-clause-merges_hinted t c =
    way_merged c.args.self.now.rules _ _ _ c.args.self.now.sides.swap _ _ _ _ _ c.in-Some.ensures _ _ (wrapper_left _ _ _ c.args.self.now.sides.swap _ _ _ _ _ c.kinds-k.ensures.left c.kinds-k.ensures.right (c.in-Some.ensures.wrapper) _ _ c.if-k-kind.true c.if-j-kind.false c.value-a.ensures c.same_sides.ensures c.args.self.now.rules.mask c.args.known.now.hint c.in-Some.t.hint (c.in-Some.ensures.on c.args.self.now.sides.space) c.args.known.now.differs c.if-same_sides.false c.common-then-k-kind.ensures.merges_hinted)

pub wrapper-returns-then-same_sides-2-clause-merges_hinted : goal.wrapper-returns-then-same_sides-2-clause-merges_hinted
wrapper-returns-then-same_sides-2-clause-merges_hinted t c =
    way_merged c.args.self.now.rules _ _ _ c.args.self.now.sides.swap _ _ _ _ _ c.in-Some.ensures _ _ (any_hint _ _ c.args.self.now.sides.swap (any_known _ c.args.self.now.sides.swap (wrapper_right_same _ _ _ c.args.self.now.sides.swap _ _ _ _ _ c.kinds-k.ensures.left c.kinds-k.ensures.right (c.in-Some.ensures.wrapper) _ _ c.if-k-kind.false c.if-j-kind-2.true c.right_value-b-then-j-kind-2.ensures (rw c.swapped-turned.ensures at c.same_sides-then-j-kind-2.ensures) c.if-same_sides-2.true (rw c.swapped-turned.ensures at c.copy_type-then-same_sides-2.ensures))))

pub wrapper-returns-then-same_sides-2-clause-stays_tabled : goal.wrapper-returns-then-same_sides-2-clause-stays_tabled
wrapper-returns-then-same_sides-2-clause-stays_tabled t c =
    tabled_over c.requires.room.0 (rw c.swapped-turned.ensures at c.copy_type-then-same_sides-2.ensures).writes.kept c.requires.tabled

pub wrapper-returns-then-j-kind-2-clause-merges_hinted : goal.wrapper-returns-then-j-kind-2-clause-merges_hinted
wrapper-returns-then-j-kind-2-clause-merges_hinted t c =
    way_merged c.args.self.now.rules _ _ _ c.args.self.now.sides.swap _ _ _ _ _ c.in-Some.ensures _ _ (wrapper_right _ _ _ c.args.self.now.sides.swap _ _ _ _ _ c.kinds-k.ensures.left c.kinds-k.ensures.right (c.in-Some.ensures.wrapper) _ _ c.if-k-kind.false c.if-j-kind-2.true c.right_value-b-then-j-kind-2.ensures (rw c.swapped-turned.ensures at c.same_sides-then-j-kind-2.ensures) c.args.self.now.rules.mask c.args.known.now.hint c.in-Some.t.hint (c.in-Some.ensures.on c.args.self.now.sides.space) c.args.known.now.differs c.if-same_sides-2.false c.common-then-j-kind-2.ensures.merges_hinted)

pub wrapper-returns-clause-merges_hinted : goal.wrapper-returns-clause-merges_hinted
wrapper-returns-clause-merges_hinted t c =
    way_merged c.args.self.now.rules _ _ _ c.args.self.now.sides.swap _ _ _ _ _ c.in-Some.ensures _ _ (any_hint _ _ c.args.self.now.sides.swap (any_known _ c.args.self.now.sides.swap (wrapper_none _ _ _ c.args.self.now.sides.swap _ _ _ _ _ c.kinds-k.ensures.left c.kinds-k.ensures.right (c.in-Some.ensures.wrapper) c.if-k-kind.false c.if-j-kind-2.false)))

use Prim.Native.Nat.{◌+◌, ◌*◌}
use Rattle.merge.proofs.Merger.+merging.Given as goal

abbrev pub decreases-both_parts : goal.decreases-both_parts
decreases-both_parts l = 16 * l.known.now.left + 11

abbrev pub decreases-coerce_field : goal.decreases-coerce_field
decreases-coerce_field l = 16 * l.left + 6

abbrev pub decreases-coerce_value : goal.decreases-coerce_value
decreases-coerce_value l = 16 * l.left + 5

abbrev pub decreases-common : goal.decreases-common
decreases-common l = 16 * l.known.now.left + 3

abbrev pub decreases-entry : goal.decreases-entry
decreases-entry l = 16 * l.known.now.left + 10

abbrev pub decreases-list_coercion : goal.decreases-list_coercion
decreases-list_coercion l = 16 * l.known.now.left + 11

abbrev pub decreases-list_struct : goal.decreases-list_struct
decreases-list_struct l = 16 * l.known.now.left + 9

abbrev pub decreases-map_coercion : goal.decreases-map_coercion
decreases-map_coercion l = 16 * l.known.now.left + 11

abbrev pub decreases-nested : goal.decreases-nested
decreases-nested l = 16 * l.known.now.left + 12

abbrev pub decreases-type_union_resolution_coercion : goal.decreases-type_union_resolution_coercion
decreases-type_union_resolution_coercion l = 16 * l.known.now.left + 14

abbrev pub decreases-resolve_wrapper : goal.decreases-resolve_wrapper
decreases-resolve_wrapper l = 16 * l.known.now.left + 13

abbrev pub decreases-rewrapped : goal.decreases-rewrapped
decreases-rewrapped l = 16 * l.left + 11

abbrev pub decreases-rows : goal.decreases-rows
decreases-rows l = 16 * l.known.now.left + 6

abbrev pub decreases-first_row : goal.decreases-first_row
decreases-first_row l = 16 * l.known.now.left + 5

abbrev pub decreases-struct_coercion : goal.decreases-struct_coercion
decreases-struct_coercion l = 16 * l.known.now.left + 9

abbrev pub decreases-under : goal.decreases-under
decreases-under l = 16 * l.known.now.left + 8

abbrev pub decreases-unwrap : goal.decreases-unwrap
decreases-unwrap l = 16 * l.known.now.left + 14

abbrev pub decreases-wrapper : goal.decreases-wrapper
decreases-wrapper l = 16 * l.known.now.left + 13

-- P1 to P12, proved as one statement by computation, and the trials of the dictionary number.
use mathlib.Core.Path.{refl}
use Rattle.model.specs.Bytes.{choose, all, any, num, u16, u64, bit, same, onward, position, below, among, get_is}
use Rattle.model.specs.Text.{rows, row_of, utf8_from, utf8}
use Rattle.model.specs.Tree.{table, layout}
use Rattle.model.specs.Sheet.{with_count, text_bytes, pair_bytes, front_bytes, head_bytes, field_bytes, children_bytes, type_bytes, sheet_bytes}
use Rattle.model.specs.Read.{next, judged, if_set, unless, ◌then◌, read_many, read_item, read_number, read_text, read_pair, read_list, read_metadata, read_dict_id, read_field, read_bare_type, read_union_child, read_children, read_zone, read_params, read_type, read_column, read_schema, read_sheet, shifted, read_two, read_sheets, read_train}
use Rattle.model.specs.Equal.{same_field, same_child, same_type, same_columns}
use Rattle.model.specs.Datatype.{holds_fields, encodes, of_second, is_nested, equals_field, equals_child, equals_datatype, contains_metadata, contains_field, contains_child, contains, contains_schema, equals_columns}
use Rattle.model.specs.Merge.{◌>>=◌, need, pour, merge_pair, merge_metadata, merge_by_name, merge_child, ids_differ, orders_agree, merged_order, merge_field, merge_each, is_null, merge_same_code, merge_type, merge_schema, placed, merge_from, try_merge}
use Rattle.model.specs.Schema.{indices, select, index_fits, selected, project, lift, join, expand, normalized_columns, normalize}
use Rattle.model.specs.Filter.{filter_each, filter_leaf, filter_to, filter_field, with_left, around, look_through, filter_type, leaves_of_second, field_leaf_count, leaf_count_of_each, type_leaf_count, leaf_count, filter_columns, filter_leaves}
use Rattle.model.specs.Call.{and_then, sheet_answer, yes_no, merge_answer, project_answer, filter_answer, normalize_answer, contains_answer, equal_answer, equals_datatype_answer, zeros, refusal, acceptance, settled, call}
use Rattle.model.specs.Program.{decimal_of, decimal, hex_digit, hex_byte, hex_or_minus, line_of, program_line}
use Rattle.model.specs.Examples.{nothing, ◌and◌, AllHold, leaves_of, P1toP12, dict_id_trials}

-- every definition that a trial computes with
unfoldable pub opened : Unit {0}
unfolding choose all any join leaf_count_of_each num u16 u64 bit same onward position below among get_is rows row_of utf8_from utf8 table layout with_count text_bytes pair_bytes front_bytes head_bytes field_bytes children_bytes type_bytes sheet_bytes next judged if_set unless ◌then◌ read_many read_item read_number read_text read_pair read_list read_metadata read_dict_id read_field read_bare_type read_union_child read_children read_zone read_params read_type read_column read_schema read_sheet shifted read_two read_sheets read_train same_field same_child same_type same_columns holds_fields encodes of_second is_nested equals_field equals_child equals_datatype contains_metadata contains_field contains_child contains contains_schema equals_columns ◌>>=◌ need pour merge_pair merge_metadata merge_by_name merge_child ids_differ orders_agree merged_order merge_field merge_each is_null merge_same_code merge_type merge_schema placed merge_from try_merge indices select index_fits selected project lift expand normalized_columns normalize filter_each filter_leaf filter_to filter_field with_left around look_through filter_type leaves_of_second field_leaf_count type_leaf_count leaf_count filter_columns filter_leaves and_then sheet_answer yes_no merge_answer project_answer filter_answer normalize_answer contains_answer equal_answer equals_datatype_answer zeros refusal acceptance settled call decimal_of decimal hex_digit hex_byte hex_or_minus line_of program_line leaves_of
opened = tt

pub trials_hold : P1toP12
unfolding opened
trials_hold =
    -- P1 to P8: merging
    refl and refl and refl and refl and refl
    -- P5 parked log first
    and refl and refl and refl and refl
    and refl and refl and refl
    -- P9, P10: normalising, projecting
    and refl and refl and refl and refl
    -- P11, P12: the leaf count, containment
    and refl and refl and refl and refl and refl
    and nothing

pub dict_id_trials_hold : AllHold dict_id_trials
unfolding opened
dict_id_trials_hold =
    refl and refl and refl and refl and refl and refl and refl and refl and refl and refl and refl and refl and refl and refl and refl and nothing

-- To unfold `compute` is to unfold the whole definition, with what it cites: so a worked example is proved by computing it.
use Rattle.numbers.specs.Double as NDouble
use Rattle.numbers.specs.Int as NInt
use Rattle.numbers.specs.Order as NOrder
use Rattle.numbers.specs.Uint as NUint
use Rattle.text.specs.Bytes as TBytes
use Rattle.text.specs.Utf8 as TUtf8
use Rattle.meaning.specs.Answer as Answer
use Rattle.meaning.specs.Bindings as Bindings
use Rattle.meaning.specs.Calls as Calls
use Rattle.meaning.specs.Comparison as Comparison
use Rattle.meaning.specs.Comprehension as Comprehension
use Rattle.meaning.specs.Containers as Containers
use Rattle.meaning.specs.Expr as Expr
use Rattle.meaning.specs.Heads as Heads
use Rattle.meaning.specs.Kinds as Kinds
use Rattle.meaning.specs.Limited as Limited
use Rattle.meaning.specs.Limits as Limits
use Rattle.meaning.specs.Logic as Logic
use Rattle.meaning.specs.Look as Look
use Rattle.meaning.specs.Maps as Maps
use Rattle.meaning.specs.Meaning as Meaning
use Rattle.meaning.specs.Numbers as Numbers
use Rattle.meaning.specs.Optionals as Optionals
use Rattle.meaning.specs.Run as Run
use Rattle.meaning.specs.Selection as Selection
use Rattle.meaning.specs.Spelling as Spelling
use Rattle.meaning.specs.Table as Table
use Rattle.meaning.specs.Value as Value
use lib.Ieee as Ieee
use Rattle.meaning.specs.Options as Options
use Rattle.meaning.proofs.Sample as Sample

unfoldable pub compute : Unit {0}
unfolding NDouble.units NDouble.size_of NDouble.point_of NDouble.add_bits NDouble.sub_bits NDouble.mul_bits NDouble.div_bits NDouble.neg_bits NInt.answer NInt.add_of NInt.sub_of NInt.mul_of NInt.neg_of NInt.div_of NInt.rem_of NOrder.whole_point NOrder.size_order NOrder.signed_order NOrder.order_of NUint.answer NUint.add_of NUint.sub_of NUint.mul_of NUint.unless_zero NUint.div_of NUint.rem_of TBytes.order_of TBytes.equal_of TUtf8.table TUtf8.inside TUtf8.opened TUtf8.well_formed_from TUtf8.well_formed TUtf8.code_points Answer.answer_run Answer.answer_read Answer.answer_of Bindings.text_bytes Bindings.cells_of Bindings.cells_in Bindings.cells_over Bindings.bytes_of Bindings.bytes_in Bindings.bytes_over Bindings.bound_in Bindings.scope_of Bindings.bring Calls.counted Calls.scalar_size Calls.size_rule Calls.call_rule Calls.or_value_call Comparison.rank Comparison.then_text Comparison.rank_order Comparison.same_class Comparison.scalar_equal Comparison.scalar_order Comparison.holds Comparison.ordered Comparison.compare_values Comparison.compare_rule Comparison.tick Comparison.both Comparison.either Comparison.find Comparison.against Comparison.elements_against Comparison.found_against Comparison.equal Comparison.equal_elements Comparison.equal_entries Comparison.among Comparison.compared Comparison.equal_rule Comprehension.empty_scope Comprehension.store Comprehension.key_list Comprehension.items_of Comprehension.finish Comprehension.fold_step Comprehension.after_step Comprehension.turn Comprehension.loop Comprehension.append_items Comprehension.append_turn Comprehension.append_loop Comprehension.is_empty_list Comprehension.loop_from Comprehension.comprehension_rule Containers.keeping Containers.having Containers.ready_in Containers.unmarked Containers.kept Containers.append Containers.element_rule Containers.add_new Containers.insert Containers.entry_rule Containers.pair_rule Containers.pad Containers.entry_cells Containers.finished Containers.list_rule Containers.map_rule Containers.into Expr.count_elements Expr.count_pairs Heads.◌>>=◌ Heads.◌>>◌ Heads.demand Heads.or_refuse Heads.field_bytes Heads.fields_bytes Heads.little_endian Heads.numbers_at Heads.row_at Heads.extent_fits Heads.head_at Kinds.kinds Kinds.numbered Kinds.unaries Kinds.binaries Kinds.functions Kinds.flags Kinds.name_of Kinds.called_without Kinds.is_leaf Limited.charge Limited.fits Limited.limit_of Limited.onward Limited.make Limited.spend Limited.ended Limited.outcome Limited.limited Limited.cells_built Limited.text_built Limited.rooms_built Limited.cleared Limited.rooms_after Limits.cut Logic.absorbing Logic.absorbs Logic.raised_error Logic.bool_wanted Logic.left_error Logic.right_bool Logic.after_left Logic.logic_rule Logic.bool_or_true Logic.not_strictly_false_rule Logic.conditional_rule Look.a_fold Look.a_sum Look.of_name Look.guarded_by Look.a_conditional Look.arith_look Look.binary_look Look.named Look.append_step Maps.probe_in Maps.probe_of Maps.position_in Maps.position_of Maps.element_at Maps.look_up Maps.is_found Maps.in_rule Meaning.of_one Meaning.of_two Meaning.unary_rule Meaning.binary_rule Meaning.run Meaning.run_elements Meaning.run_pairs Meaning.look Numbers.int_in Numbers.uint_in Numbers.double_in Numbers.bytes_in Numbers.int_arith Numbers.int_rule Numbers.uint_arith Numbers.uint_rule Numbers.double_arith Numbers.only_add Numbers.built_text Numbers.scalar_arith Numbers.arith_rule Numbers.scalar_negate Numbers.negate_rule Numbers.not_rule Optionals.unwrap_optional Optionals.optional_of_rule Optionals.has_value_rule Optionals.value_rule Optionals.or_value_rule Run.pure Run.charged Run.after Run.on_value Run.◌>>=◌ Run.fail Run.or_fail Run.from_operand Run.operand Run.placed Run.here Run.begin Run.truth Run.try_bool Run.choose Run.built Selection.present_or_none Selection.optionally Selection.succeeded Selection.tells Selection.select_in_container Selection.select_in_present Selection.select_in_map Selection.select_in_none Selection.select_field Selection.perhaps Selection.index_rule Selection.opt_select_in Selection.opt_select_rule Spelling.literal_of Spelling.literals_of Spelling.literal_pairs_of Spelling.place_of Spelling.literal_nesting Spelling.literals_nesting Spelling.literal_pairs_nesting Spelling.new_key Spelling.key_literal Spelling.spelled Spelling.spelled_elements Spelling.spelled_entries Spelling.spelled_root Table.add_element Table.add_pair Table.elements_from Table.pairs_from Table.span Table.utf8 Table.filled Table.called_at Table.body_at Table.as_expr Table.as_part Table.expr_at Table.part_at Table.root_at Table.read_table Value.nesting Value.nesting_in Value.nesting_over Value.count Value.count_entries Value.join Value.nth Value.value_list Value.add_entry Value.key_scalar Value.scalar_of Value.elements_of Value.entries_of Value.is_none Value.part_of Value.bool_in Value.bool_of Value.key_in Value.key_of Value.string_in Value.string_of Ieee.of_bits Ieee.to_bits Ieee.add Ieee.sub Ieee.mul Ieee.div Ieee.neg Options.bind Sample.little Sample.spelled Sample.joined Sample.values_of Sample.wrapped Sample.nested Sample.play
compute = tt

-- The proof is by computation.
use Rattle.std.proofs.Common.{refl}
use Rattle.std.specs.Int.{int_wrap}
use Rattle.jvms_file.specs.Bytes.{number}
use Rattle.jvms_file.specs.Texts.{unit_at, decoded_from}
use Rattle.jvms_file.specs.Descriptors.{field_type_from, parameters_from, method_type_of}
use Rattle.jvms_file.specs.ConstantPool.{constant_at, entries_at, entry_fault, entries_fault}
use Rattle.jvms_file.specs.Instructions.{insn_at, operands_at}
use Rattle.jvms_file.specs.Code.{insns_at_bytes_from, with_places, insns_of}
use Rattle.jvms_file.specs.Members.{field_at, code_at, method_at}
use Rattle.jvms_file.specs.ClassFile.{class_at}
use Rattle.jvms_file.specs.Results.{part_list_onto}
use Rattle.jvms_program.specs.Meaning.{meaning}
use Rattle.jvms_program.specs.BuiltIn.{built_in_classes, is_built_in}
use Rattle.jvms_program.specs.Program.{program_of}
use Rattle.jvms_program.specs.Resolution.{chain_within, ancestry_within}
use Rattle.jvms_machine.specs.Steps.{frame_decision}
use Rattle.jvms_machine.specs.Actions.{applied_to, items_of}
use Rattle.jvms_machine.specs.Turn.{reaching_decision, decide, turn}
use Rattle.jvms_machine.specs.Start.{start_of}
use Rattle.jvms_machine.specs.Opening.{opening}
use Rattle.jvms_machine.specs.Run.{run_from}
use Rattle.jvms_machine.proofs.laws.run_of_gcd.Goals as goal

pub returns-clause-outcomes : goal.returns-clause-outcomes
unfolding int_wrap number unit_at decoded_from field_type_from parameters_from method_type_of constant_at entries_at entry_fault entries_fault insn_at operands_at insns_at_bytes_from with_places insns_of part_list_onto field_at code_at method_at class_at meaning built_in_classes is_built_in program_of chain_within ancestry_within frame_decision reaching_decision applied_to items_of decide turn start_of opening run_from
returns-clause-outcomes c = refl

pub returns-clause-gives : goal.returns-clause-gives
unfolding int_wrap number unit_at decoded_from field_type_from parameters_from method_type_of constant_at entries_at entry_fault entries_fault insn_at operands_at insns_at_bytes_from with_places insns_of part_list_onto field_at code_at method_at class_at meaning built_in_classes is_built_in program_of chain_within ancestry_within frame_decision reaching_decision applied_to items_of decide turn start_of opening run_from
returns-clause-gives c = refl

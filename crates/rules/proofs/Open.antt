-- Opens every definition of the step at once, for facts about given states that hold by computation.
use Prim.Native.Nat.{ℕ}
use lib.Ieee.{to_bits, of_bits}
use Rattle.value.specs.Legal.{endless, legal_word}
use Rattle.value.specs.Value.{value_of, parsed}
use Rattle.call.specs.Decode.{decoded}
use Rattle.wire.specs.Table.{cat, tab}
use Rattle.slot.specs.Logic.{◌and◌, ◌or◌, any, first}
use Rattle.slot.specs.Logs.{read_entry, write_entry, reads_cell, writes_cell, put_write, some_marked, marked_written}
use Rattle.rules.specs.Cells.{held_by_other, newer, with_mark, reloaded, obstacle, free_all}
use Rattle.rules.specs.Steps.{begin, read_shared, read, write, illegal_write, close, lock, enter, reread, update, illegal_update, ask, reload, ignore, publishing_or_idle, finish, publish, give_up}
use Rattle.rules.specs.Step.{step_of, step}
use Rattle.rules.specs.Run.{replies, end_state}

unfoldable pub computed : ℕ
unfolding to_bits of_bits endless legal_word value_of parsed decoded cat tab ◌and◌ ◌or◌ any first read_entry write_entry reads_cell writes_cell put_write some_marked marked_written held_by_other newer with_mark reloaded obstacle free_all begin read_shared read write illegal_write close lock enter reread update illegal_update ask reload ignore publishing_or_idle finish publish give_up step_of step replies end_state
computed = 0

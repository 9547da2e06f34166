-- A call of a slot that is not there.
use Rattle.std.specs.Prelude.{Ok, Err}
use Rattle.call.specs.Decode.{Decoded}
use Rattle.call.specs.declared.Undecoded.TheVariants.{IllegalWrite, IllegalUpdate, Unknown}
use Rattle.call.specs.declared.Refusal.{Refusal}
use Rattle.call.specs.declared.Refusal.TheVariants.{NoSuchStep, NoSuchSlot}

-- code 2 comes before code 3
abbrev pub without_slot : Decoded → Refusal
without_slot (Ok s) = NoSuchSlot
without_slot (Err (IllegalWrite c)) = NoSuchSlot
without_slot (Err (IllegalUpdate c)) = NoSuchSlot
without_slot (Err Unknown) = NoSuchStep

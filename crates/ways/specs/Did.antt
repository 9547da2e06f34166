-- What a step on an area comes to: its reply and every byte after it are those of the definition, for done and refused alike.
use Rattle.std.specs.Prelude.{List, ◌≡◌, ℕ}
use Rattle.call.specs.Answer.{Reply}
use Rattle.rules.specs.Model.{controller}
use Rattle.rules.specs.Outcome.{Outcome, reply_of}
use Rattle.rules.specs.Area.{answered}

pub record Did (o : Outcome) (before : List ℕ) (r : Reply) (after : List ℕ) : Type 0 where
  pub reply : r ≡ reply_of o
  pub bytes : after ≡ (answered controller before o).bytes

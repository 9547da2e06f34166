-- The exits of a step's tests, for the search: a refusal that `?` hands on or that the step gives itself, of a row in a slot of another phase than it asks for.
use Rattle.ways.proofs.Done.{handed, refuses}
use Rattle.ways.proofs.Phases.{not-idle, not-open, not-locking, not-twilight, not-publishing, not-uncommitted}

pub ruleset exits = (handed, refuses, not-idle, not-open, not-locking, not-twilight, not-publishing, not-uncommitted)

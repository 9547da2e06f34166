-- `make_step` meets its contract: the bytes are read where the definition reads them.
use Rattle.stage.specs.Calls.{call_of}
use Rattle.stage.proofs.make_step.Goals as goal

pub returns : goal.returns
unfolding call_of
returns c =
    rw (c.byte.ensures, c.byte-2.ensures, c.byte-3.ensures, c.byte-4.ensures, c.word-word.ensures) at c.crocktendril_step.ensures

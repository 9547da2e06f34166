-- The statement of demand 3 bites: at each slip's history it is false, by computation.
use mathlib.Core.List.{[], ◌∷◌, ◌++◌, map}
use mathlib.Core.Path.{◌≡◌, refl}
use Prim.Native.Nat.{ℕ}
use native.Mathlib.Omega.{arith}
use lib.ListN.{replicate}
use Rattle.call.specs.Answer.{reply_code}
use Rattle.rules.specs.Model.{controller}
use Rattle.rules.specs.Step.{step}
use Rattle.rules.specs.SheetS.{before_s}
use Rattle.rules.proofs.Open.{computed}
use Rattle.history.specs.History.{Event, history, final, commits, shared_reads, log_at, up_to, Demand3}
use Rattle.history.specs.Slips.{slip, close_marks, enter_stamps, writer_between, reload_keeps, reload_later, read_held, read_under_hold, publish_frees, read_unpublished, publish_pretends, write_alone, ignore_loses, totaliser}

pub marks-at-close : Demand3 before_s (history (slip 4 close_marks (slip 6 enter_stamps (step controller))) before_s writer_between)
    (final (slip 4 close_marks (slip 6 enter_stamps (step controller))) before_s writer_between) → ⊥
unfolding computed slip close_marks enter_stamps writer_between history final commits log_at up_to
marks-at-close d = let wrong : ◌≡◌ {A = ℕ} 5 9 = (d.commits_had.1.0 refl).0 in omega arith

pub old-stamp-at-reload : Demand3 before_s (history (slip 10 reload_keeps (step controller)) before_s reload_later)
    (final (slip 10 reload_keeps (step controller)) before_s reload_later) → ⊥
unfolding computed slip reload_keeps reload_later history final commits log_at up_to
old-stamp-at-reload d = let wrong : ◌≡◌ {A = ℕ} 9 5 = (d.commits_had.1.0 refl).0 in omega arith

pub held-cell-read : Demand3 before_s (history (slip 2 read_held (step controller)) before_s read_under_hold)
    (final (slip 2 read_held (step controller)) before_s read_under_hold) → ⊥
unfolding computed slip read_held read_under_hold history final commits shared_reads log_at up_to
held-cell-read d = let wrong : ◌≡◌ {A = ℕ} 5 9 = d.reads_gave.0.1 in omega arith

pub all-freed-at-once : Demand3 before_s (history (slip 13 publish_frees (step controller)) before_s read_unpublished)
    (final (slip 13 publish_frees (step controller)) before_s read_unpublished) → ⊥
unfolding computed slip publish_frees read_unpublished history final commits shared_reads log_at up_to
all-freed-at-once d = let wrong : ◌≡◌ {A = ℕ} 7 9 = d.reads_gave.0.1 in omega arith

pub only-pretended : Demand3 before_s (history (slip 13 publish_pretends (step controller)) before_s write_alone)
    (final (slip 13 publish_pretends (step controller)) before_s write_alone) → ⊥
unfolding computed slip publish_pretends write_alone history final commits log_at up_to
only-pretended d = let wrong : ◌≡◌ {A = ℕ} 5 9 = d.cells_hold 0 (omega arith) refl in omega arith

-- slot 1 read 5 and wrote it on, where the replay had slot 2's 15
pub update-dropped : Demand3 before_s (history (slip 11 ignore_loses (step controller)) before_s totaliser)
    (final (slip 11 ignore_loses (step controller)) before_s totaliser) → ⊥
unfolding computed slip ignore_loses totaliser history final commits log_at up_to
update-dropped d = let wrong : ◌≡◌ {A = ℕ} 5 15 = d.updates_had.1.0.0 refl in omega arith

-- the right step answers those calls with 0 up to the ignore, which gets 15; its finish is told 13, and there is nothing to publish
pub totaliser-refused : map (λ (e : Event). reply_code e.reply) (history (step controller) before_s totaliser) ≡ (replicate 14 0 ++ (15 ∷ 13 ∷ 4 ∷ []))
unfolding computed totaliser history
totaliser-refused = refl

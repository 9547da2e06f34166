-- Counts as signed numbers: below 2^31 − 1 one more is one more.
use mathlib.Core.Bool.{Bool, true, false, not}
use mathlib.Core.Path.{◌≡◌, sym, ap, ◌∙◌}
use Prim.Native.Nat.{ℕ, suc, ◌<◌}
use native.Mathlib.Omega.{arith}
use lib.Dec.{T, le→leb}
use lib.IntN.{ℤ, suc_ℤ}
use lib.Signed.{◌≤ℤ◌, lt_z, le_z_yes, lt_z_yes, lt_z_no, clash_ℤ, <ℤ-≤ℤ_trans}
use mir.Syntax.{w32}
use mir.ValLaws.{to_z_pos}
use Rattle.pick.specs.Groups.{last_count}
use Rattle.levelling.specs.CountsUp.{signed}

-- one more as a word is one more as a signed number
pub signed-next : (word : ℕ) → word < last_count → signed (suc word) ≡ suc_ℤ (signed word)
signed-next word below = to_z_pos w32 (suc word) (omega arith) ∙ sym (ap suc_ℤ (to_z_pos w32 word (omega arith)))

-- .. and so it is no less
pub signed-rises : (word : ℕ) → word < last_count → signed word ≤ℤ signed (suc word)
signed-rises word below =
    rw (to_z_pos w32 word (omega arith), to_z_pos w32 (suc word) (omega arith)) (le_z_yes (le→leb word (suc word) (omega arith)))

-- from one signed number to a second, and on to a third
pub ≤ℤ-trans : {a b c : ℤ} → a ≤ℤ b → b ≤ℤ c → a ≤ℤ c
≤ℤ-trans {a} {b} {c} h k = by (lt_z c a) (λ above. clash_ℤ (<ℤ-≤ℤ_trans (lt_z_yes above) h) k) lt_z_no
  where
    by : (t : Bool) → (T t → a ≤ℤ c) → (T (not t) → a ≤ℤ c) → a ≤ℤ c
    by true f g = f tt
    by false f g = g tt

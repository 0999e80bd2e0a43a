-- Conditionals that share a test.
use Rattle.std.proofs.Common.{◌≡◌, Bool, true, false, cond}
use Rattle.register.specs.declared.values.ReadCode.TheVariants.{NotFound}
use Rattle.register.specs.Values.{Read}

pub cond_two : {X Y : Type 0} (R : X → Y → Type 0) (b : Bool) (x y : X) (u v : Y) → R x u → R y v → R (cond b x y) (cond b u v)
cond_two R true x y u v p q = p
cond_two R false x y u v p q = q

pub cond_one : {X : Type 0} (P : X → Type 0) (b : Bool) (x y : X) → P x → P y → P (cond b x y)
cond_one P true x y p q = p
cond_one P false x y p q = q

-- Max-Age 0 with 4.04
abbrev pub Zero : Read → Type 0
Zero r = r.shown.code ≡ NotFound → r.max_age ≡ 0

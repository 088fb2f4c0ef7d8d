-- The laws of `Store` for a log. An implementation can cite them only in specs/.
use Rattle.std.proofs.Common.{◌≡◌, inl, ℕ, zero, suc, ◌-◌, List, [], ◌∷◌, Vec, refl, subst, arith}
use Rattle.std.specs.declared.alloc.Global.{Global}
use Rattle.ncc_store.specs.declared.log.Call.{Call}
use Rattle.ncc_store.specs.declared.log.Call.TheVariants.{Write, Sync}
use Rattle.ncc_store.specs.Log.{images_of, images_back}

pub images_stand : (calls : List Call) (replaced : List (Vec ℕ Global)) (now : List ℕ) → images_of calls replaced now now
images_stand [] replaced now = refl
images_stand (Sync ∷ calls) replaced now = refl
images_stand (Write place piece ∷ calls) [] now = refl
images_stand (Write place piece ∷ calls) (gone ∷ replaced) now = inl refl

pub back_now : (n : ℕ) (calls : List Call) (replaced : List (Vec ℕ Global)) (now c : List ℕ) → images_of calls replaced now c → images_back n calls replaced now c
back_now zero calls replaced now c here = here
back_now (suc n) [] replaced now c here = here
back_now (suc n) (Sync ∷ calls) replaced now c here = inl here
back_now (suc n) (Write place piece ∷ calls) [] now c here = here
back_now (suc n) (Write place piece ∷ calls) (gone ∷ replaced) now c here = inl here

pub back_only : (n : ℕ) (calls : List Call) (replaced : List (Vec ℕ Global)) (now c : List ℕ) → images_back (n - n) calls replaced now c → images_of calls replaced now c
back_only n calls replaced now c left =
    let none : n - n ≡ 0 = omega arith in
    subst (λ (m : ℕ). images_back m calls replaced now c) none left

-- A copy goes on over a file that a call left as it was.
use Rattle.std.proofs.Common.{◌≡◌, ℕ, Bool, List, Option, sym, subst}
use Rattle.ncc_schema.specs.declared.schema.Schema.{Schema}
use Rattle.ncc_layout.specs.declared.placed_file.Placed.{Placed}
use Rattle.ncc_write.specs.declared.writer.FileWriter.{FileWriter}
use Rattle.ncc_convert.specs.Copying.{Copies, HasFront}

module _ {W : Type 0} (tells : Bool) (old new : List ℕ) (p q : Placed) (bytes : new ≡ old) (placed : q ≡ p)
    (start put : Option (List ℕ)) where
  pub copies_there : (x : FileWriter W) → Copies tells old p start put x → Copies tells new q start put x
  copies_there x copies = subst (λ (f : List ℕ). Copies tells f q start put x) (sym bytes)
      (subst (λ (r : Placed). Copies tells old r start put x) (sym placed) copies)

  pub copies_back : (x : FileWriter W) → Copies tells new q start put x → Copies tells old p start put x
  copies_back x copies = subst (λ (f : List ℕ). Copies tells f p start put x) bytes
      (subst (λ (r : Placed). Copies tells new r start put x) placed copies)

module _ (tells : Bool) (old new : List ℕ) (p q : Placed) (bytes : new ≡ old) (placed : q ≡ p)
    (start put : Option (List ℕ)) where
  pub front_back : (planned other : Schema) → other ≡ planned → HasFront tells new q other start put
      → HasFront tells old p planned start put
  front_back planned other same front = subst (λ (v : Schema). HasFront tells old p v start put) same
      (subst (λ (f : List ℕ). HasFront tells f p other start put) bytes
      (subst (λ (r : Placed). HasFront tells new r other start put) placed front))

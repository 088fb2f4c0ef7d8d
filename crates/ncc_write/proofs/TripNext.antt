-- The slab that is read next.
use Rattle.std.proofs.Common.{◌≡◌, ℕ, ◌+◌, ◌≤◌, List, length, take, drop, sym, ap, ap₂, subst, ◌∙◌, arith, length-drop}
use Rattle.std.specs.Prelude.{◌%◌}
use Rattle.std.proofs.lemmas.List.{drop-drop, length-take-le}
use Rattle.ncc_values.specs.XType.{size_of}
use Rattle.ncc_schema.specs.declared.schema.Schema.{Schema}
use Rattle.ncc_layout.specs.declared.placed_file.Placed.{Placed}
use Rattle.ncc_layout.specs.declared.placed_var.PlacedVar.{PlacedVar}
use Rattle.ncc_layout.specs.Elements.{var_at}
use Rattle.ncc_layout.specs.Placed.{record_size_of_file, vars_of}
use Rattle.ncc_layout.specs.Sizes.{slab}
use Rattle.ncc_slab.specs.Selected.{bytes_at}
use Rattle.ncc_slab.specs.SlabPlaces.{HasSlab, slab_begin}
use Rattle.ncc_write.specs.Positions.{end_of, slab_at}
use Rattle.ncc_write.specs.Trips.{SlabReads}

module _ (old file : List ℕ) (q p : Placed) (s : Schema) (bytes : List ℕ) (k : ℕ) (at : SlabReads old q s bytes k)
    (files : file ≡ old) (placed : p ≡ q) (var number : ℕ) (var_is : var ≡ (slab_at s k).number)
    (number_is : number ≡ (slab_at s k).in_record) where
  moved : (P : List ℕ → Placed → ℕ → ℕ → Type 0) → P old q (slab_at s k).number (slab_at s k).in_record
      → P file p var number
  moved P here =
      subst (λ (f : List ℕ). P f p var number) (sym files)
      (subst (λ (r : Placed). P old r var number) (sym placed)
      (subst (λ (v : ℕ). P old q v number) (sym var_is)
      (subst (λ (r : ℕ). P old q (slab_at s k).number r) (sym number_is) here)))

  pub has_next : HasSlab p var number
  has_next = moved (λ f r v n. HasSlab r v n) at.has

  abbrev x : PlacedVar
  x = var_at (vars_of p) var

  abbrev long : ℕ
  long = slab s.dims (slab_at s k).var

  long_is : x.extent.slab ≡ long
  long_is = moved (λ f r v n. (var_at (vars_of r) v).extent.slab ≡ long) at.long

  module _ (size : ℕ) (size_is : size ≡ x.extent.slab) (rest : List ℕ) (rest_is : rest ≡ drop (end_of s k) bytes) where
    pub fits : size ≤ length rest
    fits = omega (
      arith,
      size_is,
      long_is,
      at.room,
      ap (λ (l : List ℕ). length l) rest_is,
      length-drop (end_of s k) bytes,
    )

    piece_is : take size rest ≡ take long (drop (end_of s k) bytes)
    piece_is = ap₂ (λ (n : ℕ) (l : List ℕ). take n l) (size_is ∙ long_is) rest_is

    pub next_rest : drop size rest ≡ drop (end_of s (k + 1)) bytes
    next_rest =
        let sum : end_of s k + size ≡ end_of s (k + 1) = omega (arith, at.next, size_is, long_is) in
        ap (drop size) rest_is ∙ drop-drop size (end_of s k) bytes ∙ ap (λ (n : ℕ). drop n bytes) sum

    pub whole_next : (piece : List ℕ) → piece ≡ take size rest → length piece % size_of x.xtype ≡ 0
    whole_next piece is =
        let length_is : length piece ≡ long =
        ap (λ (l : List ℕ). length l) is ∙ length-take-le size rest fits ∙ size_is ∙ long_is in
        ap (λ (n : ℕ). n % size_of x.xtype) length_is
        ∙ moved (λ f r v n. long % size_of (var_at (vars_of r) v).xtype ≡ 0) at.whole

    pub there_next : (piece : List ℕ) → piece ≡ take size rest
        → bytes_at file (slab_begin (record_size_of_file p) x number) x.extent.slab ≡ piece
    there_next piece is =
        moved (λ f r v n. bytes_at f (slab_begin (record_size_of_file r) (var_at (vars_of r) v) n)
        (var_at (vars_of r) v).extent.slab ≡ take long (drop (end_of s k) bytes)) at.there
        ∙ sym (is ∙ piece_is)

use Rattle.std.proofs.Common.{◌≡◌, ◌+◌, ◌*◌, ◌^◌, ◌<◌, ◌≤◌, ap₂, sym, subst, ◌∙◌}
use Rattle.std.specs.List.{AllByRecursion}
use Rattle.std.proofs.lemmas.Bool.{ltb-true, lt-ltb}
use Rattle.ncc_schema.specs.Names.{capped}
use Rattle.ncc_layout.specs.Standard.{size_limit, FitsVersion}
use Rattle.ncc_layout.specs.Plans.{fixed_end}
use Rattle.ncc_layout.proofs.VersionFits.{words_of, fits_from, file_of}
use Rattle.ncc_layout.proofs.planning.fitting.fits_version.Goals as goal

pub returns-then-not-words_fit : goal.returns-then-not-words_fit
returns-then-not-words_fit c =
    let s = c.args.schema.now in
    let z = c.args.found.now in
    let words = λ (fits : FitsVersion s c.args.records). words_of s z c.requires.sizes c.args.records fits in
    (λ t. absurd cc, λ fits. c.if-not-words_fit.ensures.1 (rw c.as_slice.ensures (words fits)))

pub returns : goal.returns
returns c =
    let s = c.args.schema.now in
    let z = c.args.found.now in
    let length : c.saturating_add.result ≡ capped (capped (fixed_end s s.vars) + capped (c.args.records * z.record_size)) = c.saturating_add.ensures ∙ ap₂ (λ m n. capped (m + n)) c.requires.begin c.saturating_mul.ensures in
    let words : AllByRecursion (λ n. n ≤ size_limit s.version) z.rounded = rw c.as_slice.ensures at (c.words_fit.ensures.0 c.if-not-words_fit.false) in (
      λ small. fits_from s z c.requires.sizes c.args.records words (subst (λ n. n < 2 ^ 63) length (ltb-true _ _ small)),
      λ fits. lt-ltb _ _ (subst (λ n. n < 2 ^ 63) (sym length) (file_of s z c.requires.sizes c.args.records fits)),
    )

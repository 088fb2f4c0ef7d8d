-- The length of a file that is to be written.
use Rattle.std.proofs.Common.{◌≡◌, ℕ, ◌+◌, ◌*◌, ◌<◌, ◌^◌, ap, subst, arith}
use Rattle.ncc_schema.specs.declared.schema.Count.TheVariants.{Known}
use Rattle.ncc_schema.specs.declared.schema.Schema.{Schema}
use Rattle.ncc_schema.specs.Names.{capped, header_length}
use Rattle.ncc_layout.specs.Plans.{known}
use Rattle.ncc_layout.specs.Sizes.{record_size_of}
use Rattle.ncc_layout.specs.Standard.{FitsVersion, file_length, fixed_sum}

pub fits_with : (s : Schema) (n : ℕ) → s.count ≡ Known n → FitsVersion s (known s.count) → FitsVersion s n
fits_with s n is fits = subst (FitsVersion s) (ap known is) fits

-- where the records begin
abbrev pub start_of : Schema → ℕ
start_of s = header_length s + fixed_sum s.dims s.vars

pub records_fit : (s : Schema) (n size : ℕ) → FitsVersion s n → size ≡ record_size_of s → n * size < 2 ^ 63
records_fit s n size fits is =
    let file : start_of s + n * record_size_of s < 2 ^ 63 = fits.file in
    omega (arith, file, ap (λ (k : ℕ). n * k) is)

pub total_is : (s : Schema) (n size begin : ℕ) → FitsVersion s n → size ≡ record_size_of s → begin ≡ capped (start_of s) → begin + n * size ≡ file_length s n
total_is s n size begin fits is begin_is =
    let file : start_of s + n * record_size_of s < 2 ^ 63 = fits.file in
    let records : n * size ≡ n * record_size_of s = ap (λ (k : ℕ). n * k) is in
    omega (arith, file, records, begin_is)

pub total_fits : (s : Schema) (n size begin : ℕ) → FitsVersion s n → size ≡ record_size_of s → begin ≡ capped (start_of s) → begin + n * size < 2 ^ 63
total_fits s n size begin fits is begin_is =
    let file : file_length s n < 2 ^ 63 = fits.file in
    omega (arith, file, total_is s n size begin fits is begin_is)

-- No value is refused as an early end.
use Rattle.std.proofs.Common.{◌≡◌, ◌≢◌, ℕ, Bool, true, false, ltb, not, ◌&&◌, ◌||◌, List, length, Option, Some, None}
use Rattle.std.specs.Prelude.{◌==◌, is_some}
use Rattle.ncc_values.specs.Numbers.{number_of}
use Rattle.ncc_values.specs.Version.{version_of}
use Rattle.ncc_values.specs.XType.{type_of_code}
use Rattle.ncc_values.specs.declared.version.Version.{Version}
use Rattle.ncc_header.specs.declared.fault.FaultKind.{FaultKind}
use Rattle.ncc_header.specs.declared.fault.FaultKind.TheVariants.{BadMagic, BadVersion, NegativeCount, BadTag, BadType, TwoRecordDims, BadDimId, RecordDimNotFirst, NegativeOffset, EndsEarly}
use Rattle.ncc_schema.specs.declared.schema.Dim.{Dim}
use Rattle.ncc_header.specs.declared.partial.Partial.{Partial}
use Rattle.ncc_header.specs.declared.partial.Next.{Next}
use Rattle.ncc_header.specs.declared.partial.Next.TheVariants as nexts
use Rattle.ncc_header.specs.declared.fault.Wrong.{Wrong}
use Rattle.ncc_schema.specs.Schema.{count_limit, length_limit, offset_limit, record_dims, is_record}
use Rattle.ncc_header.specs.Fields.{unless, at_tag_if, first, magic_wrong, version_wrong, nelems_wrong, tag_wrong, list_nelems_wrong, dim_length_wrong, nc_type_wrong, dimid_wrong, begin_wrong}
use Rattle.ncc_header.specs.Left.{left_of}
use Rattle.ncc_header.specs.Steps.{IsRefused}

-- what is wrong, if anything, is no early end
record Other (u : Option Wrong) : Type 0 where
  never : (w : Wrong) → u ≡ Some w → w.kind ≢ EndsEarly

unless_other : (b : Bool) (kind : FaultKind) → kind ≢ EndsEarly → Other (unless b kind)
unless_other true kind other = record { never = λ w h. absurd cc }
unless_other false kind other = record { never = λ w h k. other (let same : kind ≡ w.kind = cc in cc) }

at_tag_other : (b : Bool) (kind : FaultKind) → kind ≢ EndsEarly → Other (at_tag_if b kind)
at_tag_other true kind other = record { never = λ w h k. other (let same : kind ≡ w.kind = cc in cc) }
at_tag_other false kind other = record { never = λ w h. absurd cc }

first_other : (u w : Option Wrong) → Other u → Other w → Other (first u w)
first_other None w h k = k
first_other (Some u) w h k = h

magic_other : (n : ℕ) → Other (magic_wrong n)
magic_other n = unless_other (n == 0x434446) BadMagic (λ h. cc)

version_other : (n : ℕ) → Other (version_wrong n)
version_other n = unless_other (is_some (version_of n)) BadVersion (λ h. cc)

count_other : (v : Version) (n : ℕ) → Other (nelems_wrong v n)
count_other v n = unless_other (ltb n (count_limit v)) NegativeCount (λ h. cc)

tag_other : (own n : ℕ) → Other (tag_wrong own n)
tag_other own n = unless_other ((n == 0) || (n == own)) BadTag (λ h. cc)

list_count_other : (v : Version) (t n : ℕ) → Other (list_nelems_wrong v t n)
list_count_other v t n = first_other (nelems_wrong v n) (at_tag_if ((t == 0) && not (n == 0)) BadTag) (count_other v n) (at_tag_other ((t == 0) && not (n == 0)) BadTag (λ h. cc))

length_other : (v : Version) (before : List Dim) (n : ℕ) → Other (dim_length_wrong v before n)
length_other v before n = first_other (unless (ltb n (length_limit v)) NegativeCount) (unless (not ((n == 0) && ltb 0 (record_dims before))) TwoRecordDims)
    (unless_other (ltb n (length_limit v)) NegativeCount (λ h. cc)) (unless_other (not ((n == 0) && ltb 0 (record_dims before))) TwoRecordDims (λ h. cc))

type_other : (v : Version) (n : ℕ) → Other (nc_type_wrong v n)
type_other v n = unless_other (is_some (type_of_code v n)) BadType (λ h. cc)

dimid_other : (dims : List Dim) (before : List ℕ) (n : ℕ) → Other (dimid_wrong dims before n)
dimid_other dims before n = first_other (unless (ltb n (length dims)) BadDimId) (unless (not (is_record dims n && ltb 0 (length before))) RecordDimNotFirst)
    (unless_other (ltb n (length dims)) BadDimId (λ h. cc)) (unless_other (not (is_record dims n && ltb 0 (length before))) RecordDimNotFirst (λ h. cc))

begin_other : (v : Version) (n : ℕ) → Other (begin_wrong v n)
begin_other v n = unless_other (ltb n (offset_limit v)) NegativeOffset (λ h. cc)

pub refused_other : (next : Next) (b : Partial) (front : List ℕ) (w : Wrong) → IsRefused (left_of next b) front w → w.kind ≢ EndsEarly
refused_other nexts.Magic b front w h = (magic_other (number_of front)).never w h
refused_other nexts.VersionByte b front w h = (version_other (number_of front)).never w h
refused_other nexts.NumRecs b front w h = absurd cc
refused_other nexts.DimsTag b front w h = (tag_other 10 (number_of front)).never w h
refused_other (nexts.DimsCount t) b front w h = (list_count_other b.lists.parts.version t (number_of front)).never w h
refused_other (nexts.NameLength x) b front w h = (count_other b.lists.parts.version (number_of front)).never w h
refused_other (nexts.NameText x n) b front w h = absurd cc
refused_other (nexts.NamePadding x) b front w h = absurd cc
refused_other nexts.DimLength b front w h = (length_other b.lists.parts.version b.lists.parts.dims.items (number_of front)).never w h
refused_other (nexts.AttrsTag o) b front w h = (tag_other 12 (number_of front)).never w h
refused_other (nexts.AttrsCount o t) b front w h = (list_count_other b.lists.parts.version t (number_of front)).never w h
refused_other (nexts.AttrType o) b front w h = (type_other b.lists.parts.version (number_of front)).never w h
refused_other (nexts.AttrCount o t) b front w h = (count_other b.lists.parts.version (number_of front)).never w h
refused_other (nexts.AttrValues o k) b front w h = absurd cc
refused_other (nexts.AttrPadding o n) b front w h = absurd cc
refused_other nexts.VarsTag b front w h = (tag_other 11 (number_of front)).never w h
refused_other (nexts.VarsCount t) b front w h = (list_count_other b.lists.parts.version t (number_of front)).never w h
refused_other nexts.DimIdsCount b front w h = (count_other b.lists.parts.version (number_of front)).never w h
refused_other (nexts.DimId k) b front w h = (dimid_other b.lists.parts.dims.items b.lists.var.dims.items (number_of front)).never w h
refused_other nexts.VarType b front w h = (type_other b.lists.parts.version (number_of front)).never w h
refused_other (nexts.Vsize t) b front w h = absurd cc
refused_other (nexts.VarBegin t size) b front w h = (begin_other b.lists.parts.version (number_of front)).never w h
refused_other nexts.Whole b front w h = absurd h

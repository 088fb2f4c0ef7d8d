-- Where no part is told no field is left.
use Rattle.std.proofs.Common.{◌≡◌, None, refl}
use Rattle.ncc_header.specs.declared.partial.Partial.{Partial}
use Rattle.ncc_header.specs.declared.partial.Next.{Next}
use Rattle.ncc_header.specs.declared.partial.Next.TheVariants as nexts
use Rattle.ncc_header.specs.Awaited.{unfinished_of}
use Rattle.ncc_header.specs.Left.{left_of}
use Rattle.ncc_header.specs.Steps.{size_of}

pub nowhere : (next : Next) (b : Partial) → unfinished_of next b ≡ None → size_of (left_of next b) ≡ None
nowhere nexts.Magic b e = absurd cc
nowhere nexts.VersionByte b e = absurd cc
nowhere nexts.NumRecs b e = absurd cc
nowhere nexts.DimsTag b e = absurd cc
nowhere (nexts.DimsCount t) b e = absurd cc
nowhere (nexts.NameLength x) b e = absurd cc
nowhere (nexts.NameText x n) b e = absurd cc
nowhere (nexts.NamePadding x) b e = absurd cc
nowhere nexts.DimLength b e = absurd cc
nowhere (nexts.AttrsTag o) b e = absurd cc
nowhere (nexts.AttrsCount o t) b e = absurd cc
nowhere (nexts.AttrType o) b e = absurd cc
nowhere (nexts.AttrCount o t) b e = absurd cc
nowhere (nexts.AttrValues o k) b e = absurd cc
nowhere (nexts.AttrPadding o n) b e = absurd cc
nowhere nexts.VarsTag b e = absurd cc
nowhere (nexts.VarsCount t) b e = absurd cc
nowhere nexts.DimIdsCount b e = absurd cc
nowhere (nexts.DimId k) b e = absurd cc
nowhere nexts.VarType b e = absurd cc
nowhere (nexts.Vsize t) b e = absurd cc
nowhere (nexts.VarBegin t size) b e = absurd cc
nowhere nexts.Whole b e = refl

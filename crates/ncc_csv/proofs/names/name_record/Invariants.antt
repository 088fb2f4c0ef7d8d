use Rattle.std.proofs.Common.{◌≡◌, [], map, take}
use Rattle.csv.specs.Records.{fields_of, partial_of}
use Rattle.ncc_lines.specs.Texts.{name_of}
use Rattle.ncc_lines.specs.Words.{name_text}
use Rattle.ncc_csv.proofs.names.name_record.Given as goal

abbrev pub invariant-loop-id : goal.invariant-loop-id
invariant-loop-id l = record {
  fields : fields_of l.row ≡ map name_text (map (name_of l.dims) (take l.id-index l.numbers));
  whole : partial_of l.row ≡ [];
}

-- What the picture engine writes.
use Rattle.std.specs.Prelude.{ℕ, List, ◌++◌, length, codes, decimal}
use Rattle.ncc_schema.specs.declared.schema.Header.{Header}
use Rattle.ncc_schema.specs.declared.schema.Schema.{Schema}
use Rattle.ncc_layout.specs.Extents.{greatest_end, records_of}
use Rattle.ncc_check.specs.Notes.{extents_in}
use Rattle.ncc_lines.specs.Verdicts.{file_fault_line}
use Rattle.ncc_answers.specs.declared.answer.Answer.{Answer}
use Rattle.ncc_answers.specs.Answers.{Writes}
use Rattle.ncc_places.specs.Ends.{end_of_all, records_in}
use Rattle.ncc_places.specs.Layouts.{IsToldFaultOf, IsToldText}
use Rattle.ncc_places.specs.Order.{by_begin}
use Rattle.ncc_picture.specs.declared.frame.Frame.{Frame}
use Rattle.ncc_picture.specs.declared.parts.Part.{Part}
use Rattle.ncc_picture.specs.Marks.{attribute}
use Rattle.ncc_picture.specs.Parts.{parts_in}
use Rattle.ncc_picture.specs.FileBar.{file_bar}
use Rattle.ncc_picture.specs.RecordBar.{record_bar}
use Rattle.ncc_picture.specs.Rows.{height, rows, top_of}

-- ---- the document around the shapes

-- how shapes and texts look
unfoldable pub style : List ℕ
style = codes "<style>text{font:12px monospace}rect{stroke:#000;stroke-width:.3}\n"

-- white for what no variable has, grey for the header and for what follows all
unfoldable pub places_style : List ℕ
places_style = codes ".gap{fill:#fff}.header{fill:#555}.after{fill:#ddd}.bad{fill:url(#bad);stroke:#c00}\n"

-- the records, and where each begins
unfoldable pub records_style : List ℕ
records_style = codes ".records{fill:#cfdbe8}.cut{fill:#333;stroke:none}\n"

-- nine colours of variables, and one of those without a line of their own
unfoldable pub colours : List ℕ
colours = codes ".c0{fill:#88ccee}.c1{fill:#117733}.c2{fill:#ddcc77}.c3{fill:#882255}.c4{fill:#44aa99}\n"

-- the others
unfoldable pub more_colours : List ℕ
more_colours = codes ".c5{fill:#cc6677}.c6{fill:#332288}.c7{fill:#999933}.c8{fill:#aa4499}.c9{fill:#aaa}</style>\n"

-- red lines, for what is shared or missing
unfoldable pub hatching : List ℕ
hatching = codes "<defs><pattern id=\"bad\" width=\"6\" height=\"6\" patternUnits=\"userSpaceOnUse\" patternTransform=\"rotate(45)\">\n"

-- the lines themselves
unfoldable pub hatches : List ℕ
hatches = codes "<path d=\"M0 0H6V6H0Z\" fill=\"#fff\" fill-opacity=\".5\"/><path d=\"M1.5 0V6\" stroke=\"#c00\" stroke-width=\"3\"/></pattern></defs>\n"

-- a white ground, and a margin at the left
unfoldable pub ground : List ℕ
ground = codes "<path d=\"M0 0H1080V99999H0Z\" fill=\"#fff\"/>\n<g transform=\"translate(20 0)\">\n"

-- what a reader must know of the colours
unfoldable pub legend : List ℕ
legend = codes "<text x=\"1000\" y=\"22\" text-anchor=\"end\">white: a gap; pale grey: after all; hatched red: shared, or missing</text>\n"

-- what stands before the height, and between it and its second mention
unfoldable pub opening : List ℕ
opening = codes "<svg xmlns=\"http://www.w3.org/2000/svg\" width=\"1080\""

unfoldable pub view_box : List ℕ
view_box = codes " viewBox=\"0 0 1080 "

unfoldable pub sized : (height : ℕ) → List ℕ
sized height = opening ++ (attribute (codes " height") height ++ (view_box ++ (decimal height ++ codes "\">\n")))

-- what stands before the shapes
unfoldable pub all_styles : List ℕ
all_styles = style ++ (places_style ++ (records_style ++ (colours ++ more_colours)))

unfoldable pub before_shapes : (height : ℕ) → List ℕ
before_shapes height = sized height ++ (all_styles ++ (hatching ++ (hatches ++ (ground ++ legend))))

-- and after them
unfoldable pub closing : List ℕ
closing = codes "</g>\n</svg>\n"

-- ---- the picture

abbrev pub picture : Schema → Frame → List Part → List ℕ
picture s f parts =
    before_shapes (height f (length parts)) ++ (file_bar s f parts ++ (record_bar s f.slabs_end f.records parts
    ++ (rows s f (top_of f.records) parts ++ closing)))

-- the numbers of a file of this length with this header
abbrev pub frame_in : Header → (file : ℕ) → Frame
frame_in h file = record {
  file_length = file;
  header_length = h.length;
  past = end_of_all h.length (extents_in h) (records_in h file);
  records = records_in h file;
  slabs_end = greatest_end (records_of (by_begin (extents_in h)));
}

abbrev pub picture_text : Header → (file : ℕ) → List ℕ
picture_text h file = picture h.schema (frame_in h file) (parts_in h)

-- ---- what is right of bytes

-- the picture, or the line of the first fault, with which nothing has a place
abbrev pub IsPictureText : (bytes : List ℕ) (limit : ℕ) → Answer → (text : List ℕ) → Type 0
IsPictureText bytes limit answer text = IsToldText picture_text file_fault_line bytes limit answer text

-- that line
abbrev pub IsFaultOf : (bytes : List ℕ) (limit : ℕ) → (text : List ℕ) → Type 0
IsFaultOf bytes limit text = IsToldFaultOf file_fault_line bytes limit text

-- what went out, by the answer
abbrev pub Pictures : (bytes : List ℕ) (limit : ℕ) → Answer → (out : List ℕ) → Type 0
Pictures bytes limit answer out = Writes (IsPictureText bytes limit) answer out

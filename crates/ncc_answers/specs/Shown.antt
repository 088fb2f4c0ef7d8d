-- What is shown of a file, where several are asked for in one call.
use Rattle.std.specs.Prelude.{ℕ, suc, zero, Bool, true, false, ◌||◌, ◌==◌, List, [], ◌∷◌, ◌++◌, if◌then◌else◌, codes, nat_le, nat_lt}
use Rattle.std.specs.List.{flat_map}
use Rattle.std.specs.Str.{is_utf8}
use Rattle.ncc_lines.specs.Words.{byte_digits}
use Rattle.ncc_answers.specs.declared.answer.Answer.{Answer}
use Rattle.ncc_answers.specs.declared.answer.Answer.TheVariants.{Passed, Refused, Device, Memory}
use Rattle.ncc_answers.specs.declared.form.Form.{Form}
use Rattle.ncc_answers.specs.declared.form.Form.TheVariants.{Lines, Brief, Object}

-- ---- answers

-- the status of a run
abbrev pub status_of : Answer → ℕ
status_of Passed = 0
status_of Refused = 1
status_of Device = 3
status_of Memory = 3

-- its digit
abbrev pub status_text : Answer → List ℕ
status_text Passed = codes "0"
status_text Refused = codes "1"
status_text Device = codes "3"
status_text Memory = codes "3"

-- the first of two answers, unless the other has a greater status
abbrev pub worse : Answer → Answer → Answer
worse a b = if nat_le (status_of b) (status_of a) then a else b

abbrev pub worst_from : Answer → List Answer → Answer
worst_from a [] = a
worst_from a (b ∷ answers) = worst_from (worse a b) answers

-- the first of those with the greatest status
abbrev pub worst : List Answer → Answer
worst answers = worst_from Passed answers

-- how many answers are that a device failed
abbrev pub devices : List Answer → ℕ
devices [] = zero
devices (Device ∷ answers) = suc (devices answers)
devices (_ ∷ answers) = devices answers

-- ---- lines

-- the label before each first byte of a line, of which the first line begins here where `at_start` says so
abbrev pub labelled_from : (label : List ℕ) → (at_start : Bool) → (text : List ℕ) → List ℕ
labelled_from label at_start [] = []
labelled_from label at_start (b ∷ text) = (if at_start then label else []) ++ b ∷ labelled_from label (b == 10) text

-- each line with the label before it
abbrev pub labelled : (label text : List ℕ) → List ℕ
labelled label text = labelled_from label true text

-- the first line, without its end
abbrev pub first_line : (text : List ℕ) → List ℕ
first_line [] = []
first_line (b ∷ text) = if b == 10 then [] else b ∷ first_line text

-- how many bytes the first line has, with its end where it has one
abbrev pub line_length : (text : List ℕ) → ℕ
line_length [] = zero
line_length (b ∷ text) = if b == 10 then 1 else suc (line_length text)

-- ---- a file

-- an answer in a few words: the first line of its text, or what failed
abbrev pub words_of : Answer → (text : List ℕ) → List ℕ
words_of Passed text = first_line text
words_of Refused text = first_line text
words_of Device text = codes "error device"
words_of Memory text = codes "error memory"

-- the status, the words and the path, with tabs between them
abbrev pub brief_line : Answer → (text path : List ℕ) → List ℕ
brief_line a text path = (status_text a ++ (codes "\t" ++ words_of a text)) ++ (codes "\t" ++ (path ++ codes "\n"))

-- ---- a file as an object

-- a byte of a text in quotation marks; and one of bytes that are no text
abbrev pub piece : (is_text : Bool) → ℕ → List ℕ
piece true b = if (b == 34) || (b == 92) then 92 ∷ b ∷ [] else if nat_lt b 32 then codes "\\u00" ++ byte_digits b else b ∷ []
piece false b = byte_digits b

abbrev pub pieces : (is_text : Bool) → (path : List ℕ) → List ℕ
pieces is_text path = flat_map (piece is_text) path

-- what stands around them
abbrev pub opening : (is_text : Bool) → List ℕ
opening true = codes "\""
opening false = codes "{\"hex\":\""

abbrev pub closing : (is_text : Bool) → List ℕ
closing true = codes "\""
closing false = codes "\"}"

-- a path as a text; where it isn't UTF-8, two hexadecimal digits for each byte, in an object of their own
abbrev pub path_value : (path : List ℕ) → List ℕ
path_value path = opening (is_utf8 path) ++ (pieces (is_utf8 path) path ++ closing (is_utf8 path))

-- the members of an answer: those of its text, or what failed
abbrev pub members_of : Answer → (text : List ℕ) → List ℕ
members_of Passed text = text
members_of Refused text = text
members_of Device text = codes "\"verdict\":\"error\",\"error\":\"device\""
members_of Memory text = codes "\"verdict\":\"error\",\"error\":\"memory\""

-- the path, the status and the members
abbrev pub object_line : Answer → (text path : List ℕ) → List ℕ
object_line a text path =
    (codes "{\"file\":" ++ path_value path)
    ++ ((codes ",\"status\":" ++ status_text a) ++ (codes "," ++ (members_of a text ++ codes "}\n")))

-- ---- by the form

-- the lines of a text, each with the path before it; or one line in brief; or one as an object
abbrev pub shown : Form → (path : List ℕ) → Answer → (text : List ℕ) → List ℕ
shown Lines path a text = labelled (path ++ codes ": ") text
shown Brief path a text = brief_line a text path
shown Object path a text = object_line a text path

-- Sending a text piece by piece, by a page.
use Rattle.std.proofs.Common.{◌≡◌, ℕ, ◌+◌, ◌<◌, List, [], ◌++◌, length, drop, get_or, Option, Result, Ok, Err, refl, sym, ap, subst, ◌∙◌, append_assoc}
use Rattle.std.specs.Prelude.{IsErr, OnOk}
use Rattle.std.specs.List.{flat_map}
use Rattle.std.proofs.lemmas.List.{append-nil, drop_more}
use Rattle.ncc_schema.specs.declared.schema.Dim.{Dim}
use Rattle.ncc_schema.specs.declared.schema.Var.{Var}
use Rattle.ncc_schema.specs.declared.schema.VarPlace.{VarPlace}
use Rattle.ncc_schema.specs.Device.{Puts}
use Rattle.ncc_schema.proofs.Writing.{puts_both, puts_none}
use Rattle.ncc_lines.specs.declared.send_error.SendError.{SendError}
use Rattle.ncc_lines.specs.declared.style.FloatStyle.{FloatStyle}
use Rattle.ncc_lines.specs.Sends.{PutsFront, SentUpTo, Sends, SendsAll}
use Rattle.ncc_lines.specs.Texts.{dim_line, dim_lines, begin_of, var_text, var_texts}

-- ---- the next piece of a text

-- the line of a dimension, and then those that follow
pub next_line : (dims : List Dim) (number : ℕ) (d : Dim) → number < length dims → d ≡ get_or dims number d → dim_lines number (drop number dims) ≡ dim_line number d ++ dim_lines (number + 1) (drop (number + 1) dims)
next_line dims number d inside is =
    ap (dim_lines number) (drop_more dims number d inside)
    ∙ ap (λ (e : Dim). dim_line number e ++ dim_lines (number + 1) (drop (number + 1) dims)) (sym is)

-- the text of a variable, and then those that follow
pub next_var : (style : FloatStyle) (dims : List Dim) (places : List VarPlace) (vars : List Var) (number begin : ℕ) (x : Var) → number < length vars → x ≡ get_or vars number x → begin ≡ begin_of places number → var_texts style dims places number (drop number vars) ≡ var_text style dims number begin x ++ var_texts style dims places (number + 1) (drop (number + 1) vars)
next_var style dims places vars number begin x inside is e =
    ap (var_texts style dims places number) (drop_more vars number x inside)
    ∙ ap (λ (y : Var). var_text style dims number (begin_of places number) y ++ var_texts style dims places (number + 1) (drop (number + 1) vars)) (sym is)
    ∙ ap (λ (b : ℕ). var_text style dims number b x ++ var_texts style dims places (number + 1) (drop (number + 1) vars)) (sym e)

-- the text of an item, and then those that follow
pub next_item : {A : Type 0} (f : A → List ℕ) (items : List A) (i : ℕ) (x outside : A) → i < length items → x ≡ get_or items i outside → flat_map f (drop i items) ≡ f x ++ flat_map f (drop (i + 1) items)
next_item f items i x outside inside is =
    ap (flat_map f) (drop_more items i outside inside)
    ∙ ap (λ y. f y ++ flat_map f (drop (i + 1) items)) (sym is)

-- ---- how much of a text went out

-- none of it yet
pub at_first : (old : Option (List ℕ)) (text : List ℕ) → SentUpTo old old text text
at_first old text = record { sent = []; joined = refl; puts = puts_none old }

-- a piece was added to the page
pub added : (old : Option (List ℕ)) (page new_page piece : List ℕ) → new_page ≡ page ++ piece → SentUpTo old old (page ++ piece) new_page
added old page new_page piece e = record { sent = []; joined = sym e; puts = puts_none old }

-- and then of what was left
goes_on : (old now new : Option (List ℕ)) (text rest last : List ℕ) → SentUpTo old now text rest → SentUpTo now new rest last → SentUpTo old new text last
goes_on old now new text rest last s t = record {
  sent = s.sent ++ t.sent;
  joined = s.joined ∙ ap (λ (z : List ℕ). s.sent ++ z) t.joined ∙ sym (append_assoc s.sent t.sent last);
  puts = puts_both old now new s.sent t.sent s.puts t.puts;
}

-- the same of a text that goes on
with_more : (old new : Option (List ℕ)) (text rest more : List ℕ) → SentUpTo old new text rest → SentUpTo old new (text ++ more) (rest ++ more)
with_more old new text rest more s = record {
  sent = s.sent;
  joined = ap (λ (z : List ℕ). z ++ more) s.joined ∙ append_assoc s.sent rest more;
  puts = s.puts;
}

up_to : (old new : Option (List ℕ)) (text : List ℕ) → (f : PutsFront old new text) → SentUpTo old new text f.1
up_to old new text f = record { sent = f.0; joined = f.2; puts = f.3 }

front_of : (old new : Option (List ℕ)) (text rest : List ℕ) → SentUpTo old new text rest → PutsFront old new text
front_of old new text rest s = (s.sent, rest, s.joined, s.puts)

-- a piece more of what is still to be sent
pub piece_sent : (old now new : Option (List ℕ)) (text page rest piece after last : List ℕ) → SentUpTo old now text (page ++ rest) → rest ≡ piece ++ after
    → SentUpTo now new (page ++ piece) last → SentUpTo old new text (last ++ after)
piece_sent old now new text page rest piece after last s parts t =
    let split : page ++ piece ++ after ≡ page ++ rest = append_assoc page piece after ∙ ap (λ (z : List ℕ). page ++ z) (sym parts) in
    let more = subst (λ (z : List ℕ). SentUpTo now new z (last ++ after)) split (with_more now new (page ++ piece) last after t) in
    goes_on old now new text (page ++ rest) (last ++ after) s more

-- all pieces
pub all_sent : (old now : Option (List ℕ)) (text page rest : List ℕ) → SentUpTo old now text (page ++ rest) → rest ≡ [] → SentUpTo old now text page
all_sent old now text page rest s none = subst (λ (z : List ℕ). SentUpTo old now text z) (ap (λ (z : List ℕ). page ++ z) none ∙ append-nil page) s

-- ---- a text that did not go out whole

-- what a failed call says of its text
pub fails : (old new : Option (List ℕ)) (text page : List ℕ) (result : Result (Unit {0}) SendError) → IsErr result → PutsFront old new text → Sends old new text page result
fails old new text page (Ok x) e front = absurd (cc)
fails old new text page (Err h) e front = front

-- sending this piece failed
pub piece_fails : (old now new : Option (List ℕ)) (text page rest piece after : List ℕ) → SentUpTo old now text (page ++ rest) → rest ≡ piece ++ after
    → PutsFront now new (page ++ piece) → PutsFront old new text
piece_fails old now new text page rest piece after s parts w =
    front_of old new text (w.1 ++ after) (piece_sent old now new text page rest piece after w.1 s parts (up_to now new (page ++ piece) w))

-- nothing more was sent
pub stays : (old now : Option (List ℕ)) (text rest : List ℕ) → SentUpTo old now text rest → PutsFront old now text
stays old now text rest s = front_of old now text rest s

-- the first of two texts did
pub first_fails : (old new : Option (List ℕ)) (page text a b : List ℕ) → text ≡ a ++ b → PutsFront old new (page ++ a) → PutsFront old new (page ++ text)
first_fails old new page text a b e w = piece_fails old old new (page ++ text) page text a b (at_first old (page ++ text)) e w

-- ---- a text after others

-- the first of two texts was sent, and the other is still to be sent
pub first_sent : (old new : Option (List ℕ)) (page last text a b : List ℕ) → text ≡ a ++ b → SentUpTo old new (page ++ a) last → SentUpTo old new (page ++ text) (last ++ b)
first_sent old new page last text a b e s = piece_sent old old new (page ++ text) page text a b last (at_first old (page ++ text)) e s

-- the last text was sent, or failed
pub last_sends : (old now new : Option (List ℕ)) (text page rest last : List ℕ) (result : Result (Unit {0}) SendError) → SentUpTo old now text (page ++ rest)
    → Sends now new (page ++ rest) last result → Sends old new text last result
last_sends old now new text page rest last (Ok x) s t = goes_on old now new text (page ++ rest) last s t
last_sends old now new text page rest last (Err e) s w = front_of old new text w.1 (goes_on old now new text (page ++ rest) w.1 s (up_to now new (page ++ rest) w))

-- ---- texts of two parts and of three

-- sending the second of three failed
pub second_fails : (old mid new : Option (List ℕ)) (page now text a b c : List ℕ) → text ≡ a ++ (b ++ c) → SentUpTo old mid (page ++ a) now → PutsFront mid new (now ++ b) → PutsFront old new (page ++ text)
second_fails old mid new page now text a b c e s w =
    piece_fails old mid new (page ++ text) now (b ++ c) b c (first_sent old mid page now text a (b ++ c) e s) refl w

-- two of three were sent
second_sent : (old mid new : Option (List ℕ)) (page now last text a b c : List ℕ) → text ≡ a ++ (b ++ c) → SentUpTo old mid (page ++ a) now → SentUpTo mid new (now ++ b) last → SentUpTo old new (page ++ text) (last ++ c)
second_sent old mid new page now last text a b c e s t =
    piece_sent old mid new (page ++ text) now (b ++ c) b c last (first_sent old mid page now text a (b ++ c) e s) refl t

-- and nothing more
pub third_fails : (old mid new : Option (List ℕ)) (page now last text a b c : List ℕ) → text ≡ a ++ (b ++ c) → SentUpTo old mid (page ++ a) now → SentUpTo mid new (now ++ b) last → PutsFront old new (page ++ text)
third_fails old mid new page now last text a b c e s t = stays old new (page ++ text) (last ++ c) (second_sent old mid new page now last text a b c e s t)

pub second_sends : (old mid new : Option (List ℕ)) (page now last text a b : List ℕ) (result : Result (Unit {0}) SendError) → text ≡ a ++ b → SentUpTo old mid (page ++ a) now
    → Sends mid new (now ++ b) last result → Sends old new (page ++ text) last result
second_sends old mid new page now last text a b result e s w =
    last_sends old mid new (page ++ text) now b last result (first_sent old mid page now text a b e s) w

pub third_sends : (old mid now new : Option (List ℕ)) (page next over last text a b c : List ℕ) (result : Result (Unit {0}) SendError) → text ≡ a ++ (b ++ c) → SentUpTo old mid (page ++ a) next
    → SentUpTo mid now (next ++ b) over → Sends now new (over ++ c) last result → Sends old new (page ++ text) last result
third_sends old mid now new page next over last text a b c result e s t w =
    last_sends old now new (page ++ text) over c last result (second_sent old mid now page next over text a b c e s t) w

-- a page to which a piece was added
pub turned : (old new : Option (List ℕ)) (page piece full last : List ℕ) (result : Result (Unit {0}) SendError) → full ≡ page ++ piece → Sends old new full last result → Sends old new (page ++ piece) last result
turned old new page piece full last result e w = subst (λ (z : List ℕ). Sends old new z last result) e w

-- ---- all of a text, by a page that was empty

pub page_fails : (old new : Option (List ℕ)) (page text : List ℕ) (result : Result (Unit {0}) SendError) → page ≡ [] → IsErr result → PutsFront old new (page ++ text) → SendsAll old new text result
page_fails old new page text (Ok x) none e w = absurd (cc)
page_fails old new page text (Err h) none e w = subst (λ (z : List ℕ). PutsFront old new (z ++ text)) none w

pub page_sends : (old mid new : Option (List ℕ)) (page now last text : List ℕ) (result : Result (Unit {0}) SendError) → page ≡ [] → SentUpTo old mid (page ++ text) now
    → Sends mid new now last result → OnOk result (last ≡ []) → SendsAll old new text result
page_sends old mid new page now last text (Ok x) none s t empty =
    let whole = goes_on old mid new (page ++ text) now last s t in
    let same : whole.sent ≡ text = sym (append-nil whole.sent) ∙ ap (λ (z : List ℕ). whole.sent ++ z) (sym empty) ∙ sym whole.joined ∙ ap (λ (z : List ℕ). z ++ text) none in
    subst (λ (z : List ℕ). Puts old new z) same whole.puts
page_sends old mid new page now last text (Err h) none s w empty =
    let front = front_of old new (page ++ text) w.1 (goes_on old mid new (page ++ text) now w.1 s (up_to mid new now w)) in
    subst (λ (z : List ℕ). PutsFront old new (z ++ text)) none front

-- What the front of a file says of the whole.
use Rattle.std.proofs.Common.{◌≡◌, ℕ, List, ◌++◌, length, sym, ap, subst, ◌∙◌, append_assoc}
use Rattle.std.proofs.lemmas.List.{length-append}
use Rattle.ncc_schema.specs.declared.schema.Header.{Header}
use Rattle.ncc_header.specs.declared.fault.Fault.{Fault as HeaderFault}
use Rattle.ncc_header.specs.Answers.{Begins, Stops}
use Rattle.ncc_check.specs.declared.fault.FileFault.TheVariants.{Header as OfHeader, Layout as OfLayout}
use Rattle.ncc_check.specs.declared.fault.Refusal.{Refusal}
use Rattle.ncc_check.specs.declared.fault.Refusal.TheVariants.{Fault, Device, Memory}
use Rattle.ncc_check.specs.Faults.{HasLayoutFault}
use Rattle.ncc_check.specs.Judging.{RefusedLayout, RefusesSizes}
use Rattle.ncc_check.specs.Passes.{Passes, HasOwnElements}
use Rattle.ncc_front.specs.declared.judging.FrontRefusal.{FrontRefusal}
use Rattle.ncc_front.specs.declared.reading.FrontError.{FrontError}
use Rattle.ncc_front.specs.declared.reading.FrontError.TheVariants as fronts
use Rattle.ncc_front.specs.Fronts.{IsFile, IsSaid}
use Rattle.ncc_front.specs.Judging.{RefusesFront, FindsOf, refusal_of_check, refusal_of_front}
use Rattle.ncc_layout.specs.declared.placed_file.Placed.{Placed}

pub file_length : (front : List ℕ) (file : ℕ) (bytes : List ℕ) → IsFile front file bytes → length bytes ≡ file
file_length front file bytes is = ap (λ (x : List ℕ). length x) is.joined ∙ length-append front is.rest ∙ is.long

pub begins_file : (front : List ℕ) (file : ℕ) (bytes : List ℕ) (limit : ℕ) (h : Header) → IsFile front file bytes → Begins front limit h → Begins bytes limit h
begins_file front file bytes limit h is b = record {
  front = b.front;
  rest = b.rest ++ is.rest;
  joined = is.joined ∙ ap (λ (x : List ℕ). x ++ is.rest) b.joined ∙ append_assoc b.front b.rest is.rest;
  is_header = b.is_header;
  begins = b.begins;
  marks = b.marks;
  long = b.long;
  within = b.within;
}

-- a header is there, or the front stops
abbrev Apart : Type 0
Apart = (input : List ℕ) (limit : ℕ) (h : Header) (f : HeaderFault) → Begins input limit h → Stops input limit f → ⊥

refused_layout : Apart → (front : List ℕ) (file limit : ℕ) (h : Header) (r : Refusal) → Begins front limit h → RefusedLayout h file r → RefusesFront front file limit (refusal_of_check r)
refused_layout apart front file limit h (Fault (OfHeader f)) b refused = absurd refused
refused_layout apart front file limit h (Fault (OfLayout f)) b refused = record {
  each = λ bytes is. record {
    header = h;
    begins = begins_file front file bytes limit h is b;
    fault = subst (λ (n : ℕ). HasLayoutFault h n f) (sym (file_length front file bytes is)) refused;
  };
  settled = λ at more. apart front limit h more.fault b more.stops;
}
refused_layout apart front file limit h Device b refused = absurd refused
refused_layout apart front file limit h Memory b refused = tt

pub refused_as : Apart → (front : List ℕ) (file limit : ℕ) (h : Header) (r : Refusal) (e : FrontRefusal) → e ≡ refusal_of_check r → Begins front limit h → RefusedLayout h file r → RefusesFront front file limit e
refused_as apart front file limit h r e is b refused = subst (λ (x : FrontRefusal). RefusesFront front file limit x) (sym is) (refused_layout apart front file limit h r b refused)

-- that a variable is too large is a layout fault
pub refused_sizes : (h : Header) (file : ℕ) (r : Refusal) → RefusesSizes h file r → RefusedLayout h file r
refused_sizes h file (Fault (OfHeader f)) refused = absurd refused
refused_sizes h file (Fault (OfLayout f)) refused = refused.0
refused_sizes h file Device refused = absurd refused
refused_sizes h file Memory refused = tt

pub own_elements : ((bytes : List ℕ) (limit : ℕ) → Passes bytes limit → HasOwnElements bytes limit) → (front : List ℕ) (file limit : ℕ) (h : Header) (p : Placed) → FindsOf front file limit h p
    → (bytes : List ℕ) → IsFile front file bytes → HasOwnElements bytes limit
own_elements law front file limit h p found bytes is = law bytes limit (h, found.passes bytes is)

said : (front : List ℕ) (file limit : ℕ) (e : FrontError) → IsSaid front file limit e → RefusesFront front file limit (refusal_of_front e)
said front file limit (fronts.Fault f) is = record { each = is.each; settled = is.settled }
said front file limit (fronts.More at) is = is
said front file limit fronts.Memory is = tt

pub said_as : (front : List ℕ) (file limit : ℕ) (e : FrontError) (r : FrontRefusal) → r ≡ refusal_of_front e → IsSaid front file limit e → RefusesFront front file limit r
said_as front file limit e r is said_is = subst (λ (x : FrontRefusal). RefusesFront front file limit x) (sym is) (said front file limit e said_is)

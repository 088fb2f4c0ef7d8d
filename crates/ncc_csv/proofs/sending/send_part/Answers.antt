use Rattle.std.proofs.Common.{refl, sym, decimal}
use Rattle.std.specs.Prelude.{pos}
use Rattle.std.specs.Fmt.{signed_decimal}
use Rattle.ncc_values.specs.declared.values.Values.TheVariants.{Bytes, Chars, Shorts, Ints, Floats, Doubles, UBytes, UShorts, UInts, Int64s, UInt64s}
use Rattle.ncc_values.specs.declared.xtype.XType.TheVariants.{Char, Float, Double, UByte, UShort, UInt, UInt64}
use Rattle.ncc_csv.specs.Values.{number_text, char_text, float_text, double_text}
use Rattle.ncc_csv.proofs.Order.{map-map}
use Rattle.ncc_csv.proofs.PartTexts.{sends_items}
use Rattle.ncc_csv.proofs.sending.send_part.Goals as goal

pub returns-in-Bytes-clause-sent : goal.returns-in-Bytes-clause-sent
returns-in-Bytes-clause-sent g c =
    sends_items c.args.style signed_decimal Bytes (λ items. refl) (λ items. refl) _ _ c.args.slab.now c.args.first c.args.values.now c.in-Bytes.items c.as_slice.result.now _
    c.in-Bytes.is c.as_slice.ensures c.requires.there c.send_values.ensures.sent

pub returns-in-Chars-clause-sent : goal.returns-in-Chars-clause-sent
returns-in-Chars-clause-sent g c =
    sends_items c.args.style char_text Chars (λ items. sym (map-map (number_text c.args.style Char) (λ x. pos x.0) items)) (λ items. refl) _ _ c.args.slab.now c.args.first c.args.values.now c.in-Chars.items c.as_slice-in-Chars.result.now _
    c.in-Chars.is c.as_slice-in-Chars.ensures c.requires.there c.send_values-in-Chars.ensures.sent

pub returns-in-Shorts-clause-sent : goal.returns-in-Shorts-clause-sent
returns-in-Shorts-clause-sent g c =
    sends_items c.args.style signed_decimal Shorts (λ items. refl) (λ items. refl) _ _ c.args.slab.now c.args.first c.args.values.now c.in-Shorts.items c.as_slice-in-Shorts.result.now _
    c.in-Shorts.is c.as_slice-in-Shorts.ensures c.requires.there c.send_values-in-Shorts.ensures.sent

pub returns-in-Ints-clause-sent : goal.returns-in-Ints-clause-sent
returns-in-Ints-clause-sent g c =
    sends_items c.args.style signed_decimal Ints (λ items. refl) (λ items. refl) _ _ c.args.slab.now c.args.first c.args.values.now c.in-Ints.items c.as_slice-in-Ints.result.now _
    c.in-Ints.is c.as_slice-in-Ints.ensures c.requires.there c.send_values-in-Ints.ensures.sent

pub returns-in-Floats-clause-sent : goal.returns-in-Floats-clause-sent
returns-in-Floats-clause-sent g c =
    sends_items c.args.style (float_text c.args.style) Floats (λ items. sym (map-map (number_text c.args.style Float) (λ x. pos x.0) items)) (λ items. refl) _ _ c.args.slab.now c.args.first c.args.values.now c.in-Floats.items c.as_slice-in-Floats.result.now _
    c.in-Floats.is c.as_slice-in-Floats.ensures c.requires.there c.send_values-in-Floats.ensures.sent

pub returns-in-Doubles-clause-sent : goal.returns-in-Doubles-clause-sent
returns-in-Doubles-clause-sent g c =
    sends_items c.args.style (double_text c.args.style) Doubles (λ items. sym (map-map (number_text c.args.style Double) (λ x. pos x.0) items)) (λ items. refl) _ _ c.args.slab.now c.args.first c.args.values.now c.in-Doubles.items c.as_slice-in-Doubles.result.now _
    c.in-Doubles.is c.as_slice-in-Doubles.ensures c.requires.there c.send_values-in-Doubles.ensures.sent

pub returns-in-UBytes-clause-sent : goal.returns-in-UBytes-clause-sent
returns-in-UBytes-clause-sent g c =
    sends_items c.args.style decimal UBytes (λ items. sym (map-map (number_text c.args.style UByte) (λ x. pos x) items)) (λ items. refl) _ _ c.args.slab.now c.args.first c.args.values.now c.in-UBytes.items c.as_slice-in-UBytes.result.now _
    c.in-UBytes.is c.as_slice-in-UBytes.ensures c.requires.there c.send_values-in-UBytes.ensures.sent

pub returns-in-UShorts-clause-sent : goal.returns-in-UShorts-clause-sent
returns-in-UShorts-clause-sent g c =
    sends_items c.args.style decimal UShorts (λ items. sym (map-map (number_text c.args.style UShort) (λ x. pos x) items)) (λ items. refl) _ _ c.args.slab.now c.args.first c.args.values.now c.in-UShorts.items c.as_slice-in-UShorts.result.now _
    c.in-UShorts.is c.as_slice-in-UShorts.ensures c.requires.there c.send_values-in-UShorts.ensures.sent

pub returns-in-UInts-clause-sent : goal.returns-in-UInts-clause-sent
returns-in-UInts-clause-sent g c =
    sends_items c.args.style decimal UInts (λ items. sym (map-map (number_text c.args.style UInt) (λ x. pos x) items)) (λ items. refl) _ _ c.args.slab.now c.args.first c.args.values.now c.in-UInts.items c.as_slice-in-UInts.result.now _
    c.in-UInts.is c.as_slice-in-UInts.ensures c.requires.there c.send_values-in-UInts.ensures.sent

pub returns-in-Int64s-clause-sent : goal.returns-in-Int64s-clause-sent
returns-in-Int64s-clause-sent g c =
    sends_items c.args.style signed_decimal Int64s (λ items. refl) (λ items. refl) _ _ c.args.slab.now c.args.first c.args.values.now c.in-Int64s.items c.as_slice-in-Int64s.result.now _
    c.in-Int64s.is c.as_slice-in-Int64s.ensures c.requires.there c.send_values-in-Int64s.ensures.sent

pub returns-in-UInt64s-clause-sent : goal.returns-in-UInt64s-clause-sent
returns-in-UInt64s-clause-sent g c =
    sends_items c.args.style decimal UInt64s (λ items. sym (map-map (number_text c.args.style UInt64) (λ x. pos x) items)) (λ items. refl) _ _ c.args.slab.now c.args.first c.args.values.now c.in-UInt64s.items c.as_slice-in-UInt64s.result.now _
    c.in-UInt64s.is c.as_slice-in-UInt64s.ensures c.requires.there c.send_values-in-UInt64s.ensures.sent

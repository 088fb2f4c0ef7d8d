use Rattle.std.proofs.Common.{◌≡◌, ◌+◌, ◌++◌, ◌∷◌, [], length, sym, ap, ◌∙◌, arith}
use Rattle.std.specs.List.{flat_map}
use Rattle.ncc_schema.specs.Schema.{places_of}
use Rattle.ncc_schema.specs.Header.{canon_attr, canon_dim}
use Rattle.ncc_schema.specs.Names.{canon_unplaced}
use Rattle.ncc_values.specs.Version.{count_width_of}
use Rattle.ncc_header.specs.declared.part.Part.TheVariants as parts
use Rattle.ncc_parts.specs.Parts.{dims_from, ends_from, globals_from, vars_from}
use Rattle.ncc_parts.proofs.Spelling.{all_added, all_ends, dims_begin, globals_begin, piece, sections_fill, vars_begin}
use Rattle.ncc_parts.proofs.pieces.pieces_of.Goals as goal

pub push_dims-requires : goal.push_dims-requires
push_dims-requires c =
    let h = c.args.header.now in
    let s = h.schema in
    let begins = c.requires.2 in
    let fills = sections_fill s (places_of h.places) begins.is_header.legal.number in
    let fits = c.length_is_canonical.ensures c.requires.0 c.requires.1 h begins in
    omega (arith, fills, fits, c.list_size-list.ensures, c.count_width.ensures, c.in_ok-magic.ensures.end, c.in_ok-count.ensures.end, c.in_ok-dims.ensures.end, ap (λ xs. length (flat_map (canon_dim s.version) xs)) c.as_slice.ensures)

pub push_part-requires-4 : goal.push_part-requires-4
push_part-requires-4 c =
    let h = c.args.header.now in
    let s = h.schema in
    let begins = c.requires.2 in
    let fills = sections_fill s (places_of h.places) begins.is_header.legal.number in
    let fits = c.length_is_canonical.ensures c.requires.0 c.requires.1 h begins in
    omega (arith, fills, fits, c.list_size-list.ensures, c.count_width.ensures, c.in_ok-magic.ensures.end, c.in_ok-count.ensures.end, c.in_ok-dims.ensures.end, ap (λ xs. length (flat_map (canon_dim s.version) xs)) c.as_slice.ensures, c.in_ok-end.ensures.end)

pub push_globals-requires : goal.push_globals-requires
push_globals-requires c =
    let h = c.args.header.now in
    let s = h.schema in
    let begins = c.requires.2 in
    let fills = sections_fill s (places_of h.places) begins.is_header.legal.number in
    let fits = c.length_is_canonical.ensures c.requires.0 c.requires.1 h begins in
    omega (arith, fills, fits, c.list_size-list.ensures, c.count_width.ensures, c.in_ok-magic.ensures.end, c.in_ok-count.ensures.end, c.in_ok-dims.ensures.end, ap (λ xs. length (flat_map (canon_dim s.version) xs)) c.as_slice.ensures, c.in_ok-end.ensures.end, c.in_ok-globals.ensures.end, ap (λ xs. length (flat_map (canon_attr s.version) xs)) c.as_slice-2.ensures)

pub push_part-requires-5 : goal.push_part-requires-5
push_part-requires-5 c =
    let h = c.args.header.now in
    let s = h.schema in
    let begins = c.requires.2 in
    let fills = sections_fill s (places_of h.places) begins.is_header.legal.number in
    let fits = c.length_is_canonical.ensures c.requires.0 c.requires.1 h begins in
    omega (arith, fills, fits, c.list_size-list.ensures, c.count_width.ensures, c.in_ok-magic.ensures.end, c.in_ok-count.ensures.end, c.in_ok-dims.ensures.end, ap (λ xs. length (flat_map (canon_dim s.version) xs)) c.as_slice.ensures, c.in_ok-end.ensures.end, c.in_ok-globals.ensures.end, ap (λ xs. length (flat_map (canon_attr s.version) xs)) c.as_slice-2.ensures, c.in_ok-end-2.ensures.end)

pub push_vars-requires : goal.push_vars-requires
push_vars-requires c =
    let h = c.args.header.now in
    let s = h.schema in
    let begins = c.requires.2 in
    let fills = sections_fill s (places_of h.places) begins.is_header.legal.number in
    let fits = c.length_is_canonical.ensures c.requires.0 c.requires.1 h begins in
    omega (arith, fills, fits, c.list_size-list.ensures, c.count_width.ensures, c.in_ok-magic.ensures.end, c.in_ok-count.ensures.end, c.in_ok-dims.ensures.end, ap (λ xs. length (flat_map (canon_dim s.version) xs)) c.as_slice.ensures, c.in_ok-end.ensures.end, c.in_ok-globals.ensures.end, ap (λ xs. length (flat_map (canon_attr s.version) xs)) c.as_slice-2.ensures, c.in_ok-end-2.ensures.end, c.in_ok-vars.ensures.end, ap (λ xs. length (flat_map (canon_unplaced s.version) xs)) c.as_slice-3.ensures)

pub returns : goal.returns
returns c =
    let h = c.args.header.now in
    let s = h.schema in
    let v = s.version in
    let list = c.list_size-list.ensures in
    let width = c.count_width.ensures in
    let is_magic : c.in_ok-magic.magic ≡ 4 = omega (arith, c.in_ok-magic.ensures.end) in
    let is_count : c.in_ok-count.count ≡ 4 + count_width_of v = omega (arith, is_magic, c.in_ok-count.ensures.end, width) in
    let is_dims : c.in_ok-dims.dims ≡ dims_begin s = omega (arith, is_count, c.in_ok-dims.ensures.end, list) in
    let is_end : c.in_ok-end.end ≡ dims_begin s + length (flat_map (canon_dim v) s.dims) = omega (arith, is_dims, c.in_ok-end.ensures.end, ap (λ xs. length (flat_map (canon_dim v) xs)) c.as_slice.ensures) in
    let is_globals : c.in_ok-globals.globals ≡ globals_begin s = omega (arith, is_end, c.in_ok-globals.ensures.end, list) in
    let is_end_2 : c.in_ok-end-2.end ≡ globals_begin s + length (flat_map (canon_attr v) s.gatts) = omega (arith, is_globals, c.in_ok-end-2.ensures.end, ap (λ xs. length (flat_map (canon_attr v) xs)) c.as_slice-2.ensures) in
    let is_vars : c.in_ok-vars.vars ≡ vars_begin s = omega (arith, is_end_2, c.in_ok-vars.ensures.end, list) in
    let a = piece parts.Magic 4 in
    let b = piece parts.NumRecs (4 + count_width_of v) in
    let d = piece parts.DimList (dims_begin s) in
    let g = piece parts.GlobalList (globals_begin s) in
    let x = piece parts.VarList (vars_begin s) in
    let ds = ends_from (dims_begin s) (dims_from v 0 s.dims) in
    let gs = ends_from (globals_begin s) (globals_from v 0 s.gatts) in
    let xs = ends_from (vars_begin s) (vars_from v 0 s.vars) in
    let one : c.push_part.new.pieces.items ≡ [] ++ a ∷ [] = c.in_ok-magic.ensures.pieces ∙ ap (λ ps. ps ++ piece parts.Magic 4 ∷ []) c.new-pieces.ensures.items in
    let two : c.push_part-2.new.pieces.items ≡ ([] ++ a ∷ []) ++ b ∷ [] =
    c.in_ok-count.ensures.pieces ∙ ap (λ ps. ps ++ piece parts.NumRecs (c.in_ok-magic.magic + c.count_width.result) ∷ []) one ∙ ap (λ n. ([] ++ a ∷ []) ++ piece parts.NumRecs n ∷ []) (omega (arith, is_magic, width)) in
    let three : c.push_part-3.new.pieces.items ≡ (([] ++ a ∷ []) ++ b ∷ []) ++ d ∷ [] =
    c.in_ok-dims.ensures.pieces ∙ ap (λ ps. ps ++ piece parts.DimList (c.in_ok-count.count + c.list_size-list.result) ∷ []) two ∙ ap (λ n. (([] ++ a ∷ []) ++ b ∷ []) ++ piece parts.DimList n ∷ []) (omega (arith, is_count, list)) in
    let four : c.push_dims.new.pieces.items ≡ ((([] ++ a ∷ []) ++ b ∷ []) ++ d ∷ []) ++ ds =
    c.in_ok-end.ensures.pieces ∙ ap (λ ps. ps ++ ends_from c.in_ok-dims.dims (dims_from v 0 c.as_slice.result.now)) three
    ∙ ap (λ n. ((([] ++ a ∷ []) ++ b ∷ []) ++ d ∷ []) ++ ends_from n (dims_from v 0 c.as_slice.result.now)) is_dims
    ∙ ap (λ ys. ((([] ++ a ∷ []) ++ b ∷ []) ++ d ∷ []) ++ ends_from (dims_begin s) (dims_from v 0 ys)) c.as_slice.ensures in
    let five : c.push_part-4.new.pieces.items ≡ (((([] ++ a ∷ []) ++ b ∷ []) ++ d ∷ []) ++ ds) ++ g ∷ [] =
    c.in_ok-globals.ensures.pieces ∙ ap (λ ps. ps ++ piece parts.GlobalList (c.in_ok-end.end + c.list_size-list.result) ∷ []) four
    ∙ ap (λ n. (((([] ++ a ∷ []) ++ b ∷ []) ++ d ∷ []) ++ ds) ++ piece parts.GlobalList n ∷ []) (omega (arith, is_end, list)) in
    let six : c.push_globals.new.pieces.items ≡ ((((([] ++ a ∷ []) ++ b ∷ []) ++ d ∷ []) ++ ds) ++ g ∷ []) ++ gs =
    c.in_ok-end-2.ensures.pieces ∙ ap (λ ps. ps ++ ends_from c.in_ok-globals.globals (globals_from v 0 c.as_slice-2.result.now)) five
    ∙ ap (λ n. ((((([] ++ a ∷ []) ++ b ∷ []) ++ d ∷ []) ++ ds) ++ g ∷ []) ++ ends_from n (globals_from v 0 c.as_slice-2.result.now)) is_globals
    ∙ ap (λ ys. ((((([] ++ a ∷ []) ++ b ∷ []) ++ d ∷ []) ++ ds) ++ g ∷ []) ++ ends_from (globals_begin s) (globals_from v 0 ys)) c.as_slice-2.ensures in
    let seven : c.push_part-5.new.pieces.items ≡ (((((([] ++ a ∷ []) ++ b ∷ []) ++ d ∷ []) ++ ds) ++ g ∷ []) ++ gs) ++ x ∷ [] =
    c.in_ok-vars.ensures.pieces ∙ ap (λ ps. ps ++ piece parts.VarList (c.in_ok-end-2.end + c.list_size-list.result) ∷ []) six
    ∙ ap (λ n. (((((([] ++ a ∷ []) ++ b ∷ []) ++ d ∷ []) ++ ds) ++ g ∷ []) ++ gs) ++ piece parts.VarList n ∷ []) (omega (arith, is_end_2, list)) in
    let eight : c.push_vars.new.pieces.items ≡ ((((((([] ++ a ∷ []) ++ b ∷ []) ++ d ∷ []) ++ ds) ++ g ∷ []) ++ gs) ++ x ∷ []) ++ xs =
    c.in_ok-push_vars.ensures ∙ ap (λ ps. ps ++ ends_from c.in_ok-vars.vars (vars_from v 0 c.as_slice-3.result.now)) seven
    ∙ ap (λ n. ((((((([] ++ a ∷ []) ++ b ∷ []) ++ d ∷ []) ++ ds) ++ g ∷ []) ++ gs) ++ x ∷ []) ++ ends_from n (vars_from v 0 c.as_slice-3.result.now)) is_vars
    ∙ ap (λ ys. ((((((([] ++ a ∷ []) ++ b ∷ []) ++ d ∷ []) ++ ds) ++ g ∷ []) ++ gs) ++ x ∷ []) ++ ends_from (vars_begin s) (vars_from v 0 ys)) c.as_slice-3.ensures in
    eight ∙ all_added ds gs xs a b d g x ∙ sym (all_ends s)

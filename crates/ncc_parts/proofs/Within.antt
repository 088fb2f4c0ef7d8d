-- Where each part of a header lies, counted from its end.
use Rattle.std.proofs.Common.{◌≡◌, ℕ, suc, ◌+◌, ◌-◌, ◌<◌, ◌≤◌, List, [], ◌∷◌, ◌++◌, length, take, drop, Some, refl, ap, ◌∙◌, append-nil, length-append, arith}
use Rattle.std.specs.List.{flat_map}
use Rattle.std.proofs.lemmas.List.{length-map, take_at, drop_at}
use Rattle.std.proofs.lemmas.Grind.{flat_map-append}
use Rattle.ncc_values.specs.BigEndian.{length-big_endian}
use Rattle.ncc_values.specs.Numbers.{big_endian}
use Rattle.ncc_values.specs.Version.{byte_of, count_width_of}
use Rattle.ncc_schema.specs.declared.names.NameOf.TheVariants as of
use Rattle.ncc_schema.specs.declared.schema.Attr.{Attr}
use Rattle.ncc_schema.specs.declared.schema.Dim.{Dim}
use Rattle.ncc_schema.specs.declared.schema.Schema.{Schema}
use Rattle.ncc_schema.specs.declared.schema.Var.{Var}
use Rattle.ncc_schema.specs.Header.{nc_dimension, nc_attribute, nc_variable, numrecs_word, canon_name, canon_head, canon_dim, canon_attr, canon_dimids}
use Rattle.ncc_schema.specs.Names.{attrs_in, before, canon_unplaced, gatts_at, header_length, list_size, name_at, no_place, unplaced, var_at, vars_at}
use Rattle.ncc_schema.proofs.Sizes.{before-placed, length-canon, length-canon_head, length-canon_list, length-canon_var}
use Rattle.ncc_header.specs.declared.part.Part.{Part}
use Rattle.ncc_header.specs.declared.part.Part.TheVariants as parts
use Rattle.ncc_parts.specs.Parts.{attrs_from, dims_from, globals_from, magic_bytes, part_at, parts_of, place_fields, vars_from}
use Rattle.ncc_parts.proofs.Labels.{at_attr, at_place, from_var, globals_part, here, labelled, past, past_all, to_dims, to_globals, to_var_of_all, to_vars, var_rest, vars_part}
use Rattle.ncc_parts.proofs.Runs.{behind_dims, fields_size}
use Rattle.ncc_parts.proofs.Spelling.{dims_spell, globals_spell}

-- So many bytes from this part's first one on are the rest of the header, and these first ones of them are in the part.
pub record Within (p : Part) (reach : ℕ) (s : Schema) (rest : ℕ) : Type 0 where
  pub start : ℕ
  pub total : start + rest ≡ header_length s
  pub is_in : (o : ℕ) → o < reach → part_at (start + o) (parts_of s) ≡ Some p

-- ---- one item of a list

-- the bytes of the items before it
first_bytes : {A : Type 0} (item : A → List ℕ) (all xs ys : List A) (a : A) → all ≡ xs ++ a ∷ ys → before item (length xs) all ≡ length (flat_map item xs)
first_bytes item all xs ys a is = ap (λ zs. length (flat_map item (take (length xs) zs))) is ∙ ap (λ zs. length (flat_map item zs)) (take_at xs (a ∷ ys) (length xs) refl)

-- its own
own_bytes : {A : Type 0} (item : A → List ℕ) (all xs ys : List A) (a : A) → all ≡ xs ++ a ∷ ys → length (flat_map item (take 1 (drop (length xs) all))) ≡ length (item a)
own_bytes item all xs ys a is =
    ap (λ zs. length (flat_map item (take 1 (drop (length xs) zs)))) is ∙ ap (λ zs. length (flat_map item (take 1 zs))) (drop_at xs (a ∷ ys) (length xs) refl) ∙ ap length (append-nil (item a))

-- those of all
all_bytes : {A : Type 0} (item : A → List ℕ) (all xs ys : List A) (a : A) → all ≡ xs ++ a ∷ ys → length (flat_map item all) ≡ length (flat_map item xs) + (length (item a) + length (flat_map item ys))
all_bytes item all xs ys a is =
    ap (λ zs. length (flat_map item zs)) is ∙ ap length (flat_map-append item xs (a ∷ ys))
    ∙ omega (arith, length-append (flat_map item xs) (item a ++ flat_map item ys), length-append (item a) (flat_map item ys))

there : {A : Type 0} (all xs ys : List A) (a : A) → all ≡ xs ++ a ∷ ys → length xs < length all
there all xs ys a is = omega (arith, ap length is, length-append xs (a ∷ ys))

same_part : (m n : ℕ) (ps : List (Part × List ℕ)) → m ≡ n → part_at m ps ≡ part_at n ps
same_part m n ps e = ap (λ k. part_at k ps) e

-- ---- the whole header

module _ (s : Schema) where
  abbrev pub dims_bytes : ℕ
  dims_bytes = length (flat_map (canon_dim s.version) s.dims)

  abbrev pub gatts_bytes : ℕ
  gatts_bytes = length (flat_map (canon_attr s.version) s.gatts)

  abbrev pub vars_bytes : ℕ
  vars_bytes = length (flat_map (canon_unplaced s.version) s.vars)

  no_places : length (unplaced s.vars) ≡ length s.vars
  no_places = length-map s.vars (λ x. no_place)

  -- all of it, list by list
  pub whole : header_length s ≡ 4 + count_width_of s.version + (list_size s.version + dims_bytes) + (list_size s.version + gatts_bytes) + (list_size s.version + vars_bytes)
  whole =
      omega (arith, length-canon s (unplaced s.vars) no_places, length-canon_list s.version nc_dimension (canon_dim s.version) s.dims, length-canon_list s.version nc_attribute (canon_attr s.version) s.gatts)

  globals_from_start : gatts_at s ≡ 4 + count_width_of s.version + (list_size s.version + dims_bytes)
  globals_from_start = omega (arith, length-canon_list s.version nc_dimension (canon_dim s.version) s.dims)

  vars_from_start : vars_at s ≡ 4 + count_width_of s.version + (list_size s.version + dims_bytes) + (list_size s.version + gatts_bytes)
  vars_from_start = omega (arith, globals_from_start, length-canon_list s.version nc_attribute (canon_attr s.version) s.gatts)

  abbrev dims_part : List (Part × List ℕ)
  dims_part = dims_from s.version 0 s.dims ++ globals_part s

  abbrev lists_part : List (Part × List ℕ)
  lists_part = (parts.DimList, canon_head s.version nc_dimension (length s.dims)) ∷ dims_part

  abbrev numrecs_part : List (Part × List ℕ)
  numrecs_part = (parts.NumRecs, big_endian (count_width_of s.version) (numrecs_word s.version s.count)) ∷ lists_part

  four_bytes : length (magic_bytes s.version) ≡ 4
  four_bytes = omega (arith, length-big_endian 1 (byte_of s.version))

  numrecs_size : length (big_endian (count_width_of s.version) (numrecs_word s.version s.count)) ≡ count_width_of s.version
  numrecs_size = length-big_endian (count_width_of s.version) (numrecs_word s.version s.count)

  pub within_magic : (reach rest : ℕ) → reach ≤ 4 → rest ≡ header_length s → Within parts.Magic reach s rest
  within_magic reach rest few is = record {
    start = 0;
    total = omega (arith, is);
    is_in = λ o lt. same_part (0 + o) o (parts_of s) (omega arith) ∙ here o parts.Magic (magic_bytes s.version) numrecs_part (omega (arith, lt, few, four_bytes));
  }

  pub within_numrecs : (reach rest : ℕ) → reach ≤ count_width_of s.version → 4 + rest ≡ header_length s → Within parts.NumRecs reach s rest
  within_numrecs reach rest few is = record {
    start = 4;
    total = is;
    is_in = λ o lt.
        past (4 + o) o parts.Magic (magic_bytes s.version) numrecs_part (omega (arith, four_bytes))
        ∙ here o parts.NumRecs (big_endian (count_width_of s.version) (numrecs_word s.version s.count)) lists_part (omega (arith, lt, few, numrecs_size));
  }

  pub within_dim_list : (reach rest : ℕ) → reach ≤ list_size s.version → 4 + count_width_of s.version + rest ≡ header_length s → Within parts.DimList reach s rest
  within_dim_list reach rest few is =
      let w = count_width_of s.version in
      record {
        start = 4 + w;
        total = is;
        is_in = λ o lt.
            past (4 + w + o) (w + o) parts.Magic (magic_bytes s.version) numrecs_part (omega (arith, four_bytes))
            ∙ past (w + o) o parts.NumRecs (big_endian w (numrecs_word s.version s.count)) lists_part (omega (arith, numrecs_size))
            ∙ here o parts.DimList (canon_head s.version nc_dimension (length s.dims)) dims_part (omega (arith, lt, few, length-canon_head s.version nc_dimension (length s.dims)));
      }

  pub within_dim : (xs ys : List Dim) (d : Dim) (reach rest : ℕ) → s.dims ≡ xs ++ d ∷ ys → reach ≤ length (canon_dim s.version d)
      → rest ≡ length (canon_dim s.version d) + length (flat_map (canon_dim s.version) ys) + (list_size s.version + gatts_bytes) + (list_size s.version + vars_bytes)
      → Within (parts.Dim (length xs)) reach s rest
  within_dim xs ys d reach rest split few is =
      let item = canon_dim s.version in
      record {
        start = name_at s (unplaced s.vars) (of.Dim (length xs));
        total = omega (arith, whole, is, first_bytes item s.dims xs ys d split, all_bytes item s.dims xs ys d split);
        is_in = λ o lt. labelled s (unplaced s.vars) no_places (of.Dim (length xs)) o (omega (arith, lt, few, own_bytes item s.dims xs ys d split));
      }

  pub within_global_list : (reach rest : ℕ) → reach ≤ list_size s.version → rest ≡ (list_size s.version + gatts_bytes) + (list_size s.version + vars_bytes) → Within parts.GlobalList reach s rest
  within_global_list reach rest few is =
      let v = s.version in
      let l = list_size v in
      record {
        start = gatts_at s;
        total = omega (arith, whole, is, globals_from_start);
        is_in = λ o lt.
            to_dims s (gatts_at s + o) (dims_bytes + o) (omega (arith, globals_from_start))
            ∙ past_all (dims_bytes + o) o (dims_from v 0 s.dims) (globals_part s) (omega (arith, ap length (dims_spell v 0 s.dims)))
            ∙ here o parts.GlobalList (canon_head v nc_attribute (length s.gatts)) (globals_from v 0 s.gatts ++ vars_part s) (omega (arith, lt, few, length-canon_head v nc_attribute (length s.gatts)));
      }

  pub within_global : (xs ys : List Attr) (a : Attr) (reach rest : ℕ) → s.gatts ≡ xs ++ a ∷ ys → reach ≤ length (canon_attr s.version a)
      → rest ≡ length (canon_attr s.version a) + length (flat_map (canon_attr s.version) ys) + (list_size s.version + vars_bytes)
      → Within (parts.Global (length xs)) reach s rest
  within_global xs ys a reach rest split few is =
      let item = canon_attr s.version in
      record {
        start = name_at s (unplaced s.vars) (of.Global (length xs));
        total = omega (arith, whole, is, globals_from_start, first_bytes item s.gatts xs ys a split, all_bytes item s.gatts xs ys a split);
        is_in = λ o lt. labelled s (unplaced s.vars) no_places (of.Global (length xs)) o (omega (arith, lt, few, own_bytes item s.gatts xs ys a split));
      }

  pub within_var_list : (reach rest : ℕ) → reach ≤ list_size s.version → rest ≡ list_size s.version + vars_bytes → Within parts.VarList reach s rest
  within_var_list reach rest few is =
      let v = s.version in
      let l = list_size v in
      record {
        start = vars_at s;
        total = omega (arith, whole, is, vars_from_start);
        is_in = λ o lt.
            to_globals s (vars_at s + o) (gatts_bytes + o) (omega (arith, vars_from_start))
            ∙ past_all (gatts_bytes + o) o (globals_from v 0 s.gatts) (vars_part s) (omega (arith, ap length (globals_spell v 0 s.gatts)))
            ∙ here o parts.VarList (canon_head v nc_variable (length s.vars)) (vars_from v 0 s.vars) (omega (arith, lt, few, length-canon_head v nc_variable (length s.vars)));
      }

  -- ---- in a variable

  module _ (xs ys : List Var) (x : Var) (split : s.vars ≡ xs ++ x ∷ ys) where
    abbrev number : ℕ
    number = length xs

    abbrev begin : ℕ
    begin = var_at s (unplaced s.vars) number

    abbrev pub later_bytes : ℕ
    later_bytes = length (flat_map (canon_unplaced s.version) ys)

    var_total : begin + (length (canon_unplaced s.version x) + later_bytes) ≡ header_length s
    var_total =
        let item = canon_unplaced s.version in
        omega (arith, whole, vars_from_start, before-placed s.version number s.vars (unplaced s.vars) no_places, first_bytes item s.vars xs ys x split, all_bytes item s.vars xs ys x split)

    var_size : length (canon_unplaced s.version x) ≡ attrs_in s.version x + length (flat_map (canon_attr s.version) x.attrs) + fields_size s.version
    var_size = length-canon_var s.version x no_place

    -- behind the variables before it
    to_var : (o : ℕ) → part_at (begin + o) (parts_of s) ≡ part_at o (from_var s.version number (x ∷ ys))
    to_var o =
        to_vars s (unplaced s.vars) (begin + o) o number no_places refl
        ∙ to_var_of_all s.version number o s.vars (there s.vars xs ys x split)
        ∙ ap (λ zs. part_at o (from_var s.version number zs)) (ap (drop number) split ∙ drop_at xs (x ∷ ys) number refl)

    pub within_var : (reach rest : ℕ) → reach ≤ length (canon_name s.version x.name) + length (canon_dimids s.version x.dims) → rest ≡ length (canon_unplaced s.version x) + later_bytes → Within (parts.Var number) reach s rest
    within_var reach rest few is =
        let v = s.version in
        let named = canon_name v x.name ++ canon_dimids v x.dims in
        record {
          start = begin;
          total = omega (arith, is, var_total);
          is_in = λ o lt. to_var o ∙ here o (parts.Var number) named (var_rest v number x ++ vars_from v (suc number) ys) (omega (arith, lt, few, length-append (canon_name v x.name) (canon_dimids v x.dims)));
        }

    pub within_attr_list : (reach rest : ℕ) → reach ≤ list_size s.version → rest ≡ behind_dims s.version x + later_bytes → Within (parts.AttrList number) reach s rest
    within_attr_list reach rest few is =
        let v = s.version in
        let l = list_size v in
        let named = canon_name v x.name ++ canon_dimids v x.dims in
        let front = length (canon_name v x.name) + length (canon_dimids v x.dims) in
        record {
          start = begin + front;
          total = omega (arith, is, var_total, var_size);
          is_in = λ o lt.
              same_part (begin + front + o) (begin + (front + o)) (parts_of s) (omega arith)
              ∙ to_var (front + o)
              ∙ past (front + o) o (parts.Var number) named (var_rest v number x ++ vars_from v (suc number) ys) (omega (arith, length-append (canon_name v x.name) (canon_dimids v x.dims)))
              ∙ here o (parts.AttrList number) (canon_head v nc_attribute (length x.attrs)) ((attrs_from v number 0 x.attrs ++ (parts.Place number, place_fields v x no_place) ∷ []) ++ vars_from v (suc number) ys) (omega (arith, lt, few, length-canon_head v nc_attribute (length x.attrs)));
        }

    pub within_attr : (ps qs : List Attr) (a : Attr) (reach rest : ℕ) → x.attrs ≡ ps ++ a ∷ qs → reach ≤ length (canon_attr s.version a)
        → rest ≡ length (canon_attr s.version a) + length (flat_map (canon_attr s.version) qs) + fields_size s.version + later_bytes
        → Within (parts.Attr number (length ps)) reach s rest
    within_attr ps qs a reach rest attrs few is =
        let v = s.version in
        let item = canon_attr v in
        record {
          start = begin + (attrs_in v x + before item (length ps) x.attrs);
          total = omega (arith, is, var_total, var_size, first_bytes item x.attrs ps qs a attrs, all_bytes item x.attrs ps qs a attrs);
          is_in = λ o lt.
              same_part (begin + (attrs_in v x + before item (length ps) x.attrs) + o) (begin + (attrs_in v x + before item (length ps) x.attrs + o)) (parts_of s) (omega arith)
              ∙ to_var (attrs_in v x + before item (length ps) x.attrs + o)
              ∙ at_attr v number (length ps) o (x ∷ ys) (omega (arith, lt, few, own_bytes item x.attrs ps qs a attrs));
        }

    pub within_place : (reach rest : ℕ) → reach ≤ fields_size s.version → rest ≡ fields_size s.version + later_bytes → Within (parts.Place number) reach s rest
    within_place reach rest few is =
        let v = s.version in
        let front = attrs_in v x + length (flat_map (canon_attr v) x.attrs) in
        record {
          start = begin + front;
          total = omega (arith, is, var_total, var_size);
          is_in = λ o lt.
              same_part (begin + front + o) (begin + (front + o)) (parts_of s) (omega arith)
              ∙ to_var (front + o)
              ∙ at_place v number (front + o) (fields_size v - o) x ys (omega (arith, lt, few, var_size)) (omega (arith, lt, few)) (omega arith);
        }

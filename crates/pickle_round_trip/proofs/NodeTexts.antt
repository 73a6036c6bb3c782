-- What the text of a node of each kind builds.
use Rattle.std.proofs.Common.{◌≡◌, ℕ, ◌+◌, pos, Bool, true, false, List, [], ◌∷◌, ◌++◌, Option, Some, refl, arith, sym, ◌∙◌, ap, subst}
use Rattle.std.specs.Prelude.{slice_get}
use Rattle.std.proofs.lemmas.List.{append-nil}
use Rattle.pickle_ops.specs.declared.table.TheConstants.{TABLE}
use Rattle.pickle_ops.specs.declared.table.Op.{Op}
use Rattle.pickle_ops.specs.declared.table.Op.TheVariants as ops
use Rattle.pickle_ops.specs.declared.table.Kind.TheVariants as args
use Rattle.pickle_ops.specs.Rows.{row_in}
use Rattle.pickle_ops.specs.Laws.{SpelledIsRead}
use Rattle.pickle_graph.specs.declared.node.Node.{Node}
use Rattle.pickle_graph.specs.declared.node.Node.TheVariants as kinds
use Rattle.pickle_reading.specs.declared.additions.Addition.TheVariants as additions
use Rattle.pickle_graph.specs.declared.parts.Part.{Part}
use Rattle.pickle_graph.specs.declared.parts.Part.TheVariants.{Byte, Item}
use Rattle.pickle_reading.specs.Nodes.{State}
use Rattle.pickle_reading.specs.declared.state.Item.{Item as OnStack}
use Rattle.pickle_reading.specs.declared.state.Item.TheVariants.{Value, Mark}
use Rattle.pickle_reading.specs.declared.state.Extent.{Extent}
use Rattle.pickle_reading.specs.declared.state.Extent.TheVariants.{Marked, Top}
use Rattle.pickle_graph.specs.Graph.{is_tuple}
use Rattle.pickle_reading.specs.Leaves.{leaf_of}
use Rattle.pickle_reading.specs.Stacks.{values_taken, above_mark}
use Rattle.pickle_reading.specs.Additions.{pairs_of, with_pair, added}
use Rattle.pickle_reading.specs.Steps.{changed}
use Rattle.pickle_reading.specs.Nodes.{step, tuple_of, append_to, set_in, set_pairs, reference_of}
use Rattle.pickle_reading.specs.Reading.{is_stop}
use Rattle.pickle_graph.specs.Parts.{item_parts, pair_parts, tuple_parts, list_parts, dict_parts, is_held, items_in}
use Rattle.pickle_writing.specs.Shared.{times}
use Rattle.pickle_writing.specs.Spelling.{Piece, parts_piece}
use Rattle.pickle_graph.specs.Same.{has, HaveOrigins, PairsStandFor, IsCopy}
use Rattle.pickle_graph.specs.WalkLaws.{has-here, has-later}
use Rattle.pickle_writing.specs.SharedLaws.{times-append}
use Rattle.pickle_round_trip.proofs.Standing.{get-more, all-more}
use Rattle.pickle_round_trip.proofs.Building.{values_onto, Shown, AllShown, none_shown, more_shown, piece_is}
use Rattle.pickle_round_trip.proofs.Growing.{base, front, OpenShown, Keeps, empty_open, close_open, grow_open, Closes, Grows}
use Rattle.pickle_round_trip.proofs.Visits.{visit_parts, wrapped, wrapped_text, wrapped_piece, wrapped_visits, has-first}

-- ---- values on the stack

above-onto : (vs : List ℕ) (stack : List OnStack) (more : List ℕ) → above_mark (values_onto vs stack) more ≡ above_mark stack (vs ++ more)
above-onto [] stack more = refl
above-onto (v ∷ vs) stack more = above-onto vs (Value v ∷ stack) more

pub taken_marked : (vs : List ℕ) (stack : List OnStack) → values_taken Marked (values_onto vs (Mark ∷ stack)) ≡ Some (vs, stack)
taken_marked vs stack = above-onto vs (Mark ∷ stack) [] ∙ ap (λ (l : List ℕ). Some (l, stack)) (append-nil vs)

-- so many values are taken as there are items
abbrev pub Takes : Extent → Bool → List ℕ → Type 0
Takes extent marked items = (o numbers : List ℕ) (stack : List OnStack) → HaveOrigins o numbers items → values_taken extent (values_onto numbers (base marked stack)) ≡ Some (numbers, stack)

takes_marked : (items : List ℕ) → Takes Marked true items
takes_marked items o numbers stack h = taken_marked numbers stack

takes_one : (a : ℕ) → Takes (Top 1) false (a ∷ [])
takes_one a o [] stack h = absurd h
takes_one a o (x ∷ []) stack h = refl
takes_one a o (x ∷ y ∷ l) stack h = absurd h.1

takes_two : (a b : ℕ) → Takes (Top 2) false (a ∷ b ∷ [])
takes_two a b o [] stack h = absurd h
takes_two a b o (x ∷ []) stack h = absurd h.1
takes_two a b o (x ∷ y ∷ []) stack h = refl
takes_two a b o (x ∷ y ∷ z ∷ l) stack h = absurd h.1.1

takes_three : (a b c : ℕ) → Takes (Top 3) false (a ∷ b ∷ c ∷ [])
takes_three a b c o [] stack h = absurd h
takes_three a b c o (x ∷ []) stack h = absurd h.1
takes_three a b c o (x ∷ y ∷ []) stack h = absurd h.1.1
takes_three a b c o (x ∷ y ∷ z ∷ []) stack h = refl
takes_three a b c o (x ∷ y ∷ z ∷ w ∷ l) stack h = absurd h.1.1.1

-- ---- copies of the graph's node

abbrev pub CopyOf : List Node → ℕ → List ℕ → Node → Type 0
CopyOf g m o x = IsCopy o x (slice_get g m)

pub is_copy : (g : List Node) (m : ℕ) (o : List ℕ) (x old : Node) → slice_get g m ≡ Some old → IsCopy o x (Some old) → CopyOf g m o x
is_copy g m o x old here h = subst (λ (f : Option Node). IsCopy o x f) (sym here) h

pub open_weaker : (g : List Node) (m : ℕ) (P Q : List ℕ → Node → Type 0) (p : Piece) (puts vs : List ℕ) → ((o : List ℕ) (x : Node) → P o x → Q o x) → OpenShown g m P p puts vs → OpenShown g m Q p puts vs
open_weaker g m P Q p puts vs f a = record {
  ob = a.ob;
  oa = a.oa;
  size = a.size;
  same = a.same;
  few = a.few;
  built = λ s o st room.
      let x = a.built s o st room in
      record { before = x.before; body = x.body; after = x.after; memo = x.memo; goes = x.goes; copies_before = x.copies_before; copies_after = x.copies_after; holds = f (o ++ (a.ob ++ m ∷ a.oa)) x.body x.holds; puts = x.puts };
  beyond = a.beyond;
}

pub open_as : (g : List Node) (m : ℕ) (P : List ℕ → Node → Type 0) (p q : Piece) (puts vs us : List ℕ) → p ≡ q → ((k : ℕ) → times k vs ≡ times k us) → OpenShown g m P p puts vs → OpenShown g m P q puts us
open_as g m P p q puts vs us e f a =
    let b : OpenShown g m P p puts us = record { ob = a.ob; oa = a.oa; size = a.size; same = λ k. a.same k ∙ f k; few = a.few; built = a.built; beyond = a.beyond } in
    subst (λ (x : Piece). OpenShown g m P x puts us) e b

-- a node that is exactly this one
exact_keeps : (g : List Node) (m : ℕ) (x₀ : Node) → is_tuple (slice_get g m) ≡ false → Keeps g m (λ o x. x ≡ x₀)
exact_keeps g m x₀ none = record { more = λ o p x h. h; tuple = λ o x h t. absurd (both (is_tuple (slice_get g m)) t none) }
  where
    both : (b : Bool) → b ≡ true → b ≡ false → ⊥
    both true h k = cc
    both false h k = cc

-- ---- pairs

abbrev pub flat : List (ℕ × ℕ) → List ℕ
flat [] = []
flat (pair ∷ pairs) = pair.0 ∷ pair.1 ∷ flat pairs

pub pair_items : (pairs : List (ℕ × ℕ)) → item_parts (flat pairs) ≡ pair_parts pairs
pair_items [] = refl
pair_items (pair ∷ pairs) = ap (λ (l : List Part). Item pair.0 ∷ Item pair.1 ∷ l) (pair_items pairs)

pub pairs_back : (o numbers : List ℕ) (pairs : List (ℕ × ℕ)) → HaveOrigins o numbers (flat pairs) → (ps : List (ℕ × ℕ)) × (pairs_of numbers ≡ Some ps) × PairsStandFor o ps pairs
pairs_back o [] [] h = ([], refl, tt)
pairs_back o (x ∷ l) [] h = absurd h
pairs_back o [] (pair ∷ pairs) h = absurd h
pairs_back o (x ∷ []) (pair ∷ pairs) h = absurd h.1
pairs_back o (x ∷ y ∷ l) (pair ∷ pairs) h =
    let r = pairs_back o l pairs h.1.1 in
    ((x, y) ∷ r.0, ap (with_pair (x, y)) r.1, (h.0, h.1.0, r.2))

module _ (sr : SpelledIsRead) (g : List Node) (go : ℕ → List ℕ → Piece) (vis : ℕ → List ℕ → List ℕ) where
  abbrev pub Each : List ℕ → Type 0
  Each items = (c : ℕ) (puts : List ℕ) → has c items ≡ true → Shown g c (go c puts) puts (vis c puts)

  pub items_shown : (ms puts : List ℕ) → Each ms → AllShown g ms (parts_piece go (item_parts ms) puts) puts (visit_parts vis go (item_parts ms) puts)
  items_shown [] puts each = none_shown g puts
  items_shown (m ∷ ms) puts each =
      more_shown g m ms (go m puts) (parts_piece go (item_parts ms) (go m puts).puts) puts (vis m puts) (visit_parts vis go (item_parts ms) (go m puts).puts) (each m puts (has-here m m ms refl))
      (items_shown ms (go m puts).puts (λ c p h. each c p (has-later c m ms h)))

  -- the parts' text, and the node itself
  abbrev pub whole_of : List Part → List ℕ → Piece
  whole_of parts puts = record { text = (parts_piece go parts puts).text; puts = (parts_piece go parts puts).puts; made = (parts_piece go parts puts).made + 1 }

  -- what is shown of the parts of the node m
  abbrev pub Whole : ℕ → (List ℕ → Node → Type 0) → List Part → List ℕ → Type 0
  Whole m P parts puts = OpenShown g m P (whole_of parts puts) puts (m ∷ visit_parts vis go parts puts)

  last-first : (k m : ℕ) (us vs : List ℕ) → us ≡ vs → times k (us ++ m ∷ []) ≡ times k (m ∷ vs)
  last-first k m us vs e = let a = times-append k us (m ∷ []) in let b = ap (times k) e in omega (arith, a, b)

  -- a node that is made of the items before it
  pub closed_whole : (m : ℕ) (P : List ℕ → Node → Type 0) (marked : Bool) (items : List ℕ) (byte : ℕ) (op : Op) (puts : List ℕ) → row_in TABLE.rows byte ≡ Some (record { byte = byte; op = op; kind = args.Nothing }) → is_stop op ≡ false →
      Each items → Closes sr g P items marked op → Whole m P (wrapped marked items byte) puts
  closed_whole m P marked items byte op puts listed on each closes =
      let q : Piece = parts_piece go (item_parts items) puts in
      let us : List ℕ = visit_parts vis go (item_parts items) puts in
      let a = close_open sr g m P items marked byte op q puts us listed on (items_shown items puts each) closes in
      let w = wrapped_piece go marked items byte puts in
      open_as g m P (record { text = front marked ++ (q.text ++ byte ∷ []); puts = q.puts; made = q.made + 1 }) (whole_of (wrapped marked items byte) puts) puts (us ++ m ∷ []) (m ∷ visit_parts vis go (wrapped marked items byte) puts)
      (ap (λ (p : Piece). record { text = p.text; puts = p.puts; made = p.made + 1 }) (sym w)) (λ k. last-first k m us (visit_parts vis go (wrapped marked items byte) puts) (sym (wrapped_visits go vis marked items byte puts))) a

  -- a node that is made empty, and grows by the items
  grown_whole : (m : ℕ) (empty : Node) (Q : List ℕ → Node → Type 0) (first : ℕ) (op₀ : Op) (marked : Bool) (items : List ℕ) (byte : ℕ) (op : Op) (puts : List ℕ) →
      row_in TABLE.rows first ≡ Some (record { byte = first; op = op₀; kind = args.Nothing }) → is_stop op₀ ≡ false → leaf_of op₀ (pos 0) [] ≡ Some empty →
      row_in TABLE.rows byte ≡ Some (record { byte = byte; op = op; kind = args.Nothing }) → is_stop op ≡ false → is_tuple (slice_get g m) ≡ false →
      Each items → Grows sr (λ o x. x ≡ empty) Q items marked op → Whole m Q (Byte first ∷ wrapped marked items byte) puts
  grown_whole m empty Q first op₀ marked items byte op puts listed₀ on₀ makes listed on none each grows =
      let q : Piece = parts_piece go (item_parts items) puts in
      let us : List ℕ = visit_parts vis go (item_parts items) puts in
      let one : Piece = record { text = first ∷ []; puts = puts; made = 1 } in
      let a = empty_open sr g m empty first op₀ puts listed₀ on₀ makes in
      let b = grow_open sr g m (λ o x. x ≡ empty) Q items marked byte op one q puts (m ∷ []) us listed on (exact_keeps g m empty none) a (items_shown items puts each) grows in
      let w = wrapped_piece go marked items byte puts in
      let p : Piece = record { text = (first ∷ []) ++ (front marked ++ (q.text ++ byte ∷ [])); puts = q.puts; made = 1 + q.made } in
      let e : p ≡ whole_of (Byte first ∷ wrapped marked items byte) puts =
      piece_is p (record { text = first ∷ (wrapped_text marked byte q).text; puts = q.puts; made = 0 + q.made + 1 }) refl refl (omega arith)
      ∙ ap (λ (x : Piece). record { text = first ∷ x.text; puts = x.puts; made = 0 + x.made + 1 }) (sym w) in
      open_as g m Q p (whole_of (Byte first ∷ wrapped marked items byte) puts) puts (m ∷ us) (m ∷ visit_parts vis go (Byte first ∷ wrapped marked items byte) puts) e
      (λ k. ap (λ (l : List ℕ). times k (m ∷ l)) (sym (wrapped_visits go vis marked items byte puts))) b

  -- ---- tuples

  tuple_closes : (m : ℕ) (items : List ℕ) (marked : Bool) (extent : Extent) (op : Op) → slice_get g m ≡ Some (kinds.Tuple items) → Takes extent marked items →
      ((s : State) (at : ℕ) → step op at (pos 0) [] s ≡ tuple_of at s (values_taken extent s.stack)) → Closes sr g (CopyOf g m) items marked op
  tuple_closes m items marked extent op here takes is s o numbers stack tuples count found e = (
    kinds.Tuple numbers,
    (λ more. is_copy g m (o ++ more) (kinds.Tuple numbers) (kinds.Tuple items) here (all-more o more numbers items found)),
    λ at. is s at ∙ ap (λ (l : List OnStack). tuple_of at s (values_taken extent l)) e ∙ ap (tuple_of at s) (takes o numbers stack found),
  )

  pub tuple_whole : (m : ℕ) (items puts : List ℕ) → slice_get g m ≡ Some (kinds.Tuple items) → is_held (kinds.Tuple items) ≡ true → Each (items_in (tuple_parts items)) → Whole m (CopyOf g m) (tuple_parts items) puts
  tuple_whole m [] puts here held each = absurd cc
  tuple_whole m (a ∷ []) puts here held each =
      closed_whole m (CopyOf g m) false (a ∷ []) 0x85 ops.Tuple1 puts refl refl each (tuple_closes m (a ∷ []) false (Top 1) ops.Tuple1 here (takes_one a) (λ s at. refl))
  tuple_whole m (a ∷ b ∷ []) puts here held each =
      closed_whole m (CopyOf g m) false (a ∷ b ∷ []) 0x86 ops.Tuple2 puts refl refl each (tuple_closes m (a ∷ b ∷ []) false (Top 2) ops.Tuple2 here (takes_two a b) (λ s at. refl))
  tuple_whole m (a ∷ b ∷ c ∷ []) puts here held each =
      closed_whole m (CopyOf g m) false (a ∷ b ∷ c ∷ []) 0x87 ops.Tuple3 puts refl refl each (tuple_closes m (a ∷ b ∷ c ∷ []) false (Top 3) ops.Tuple3 here (takes_three a b c) (λ s at. refl))
  tuple_whole m (a ∷ b ∷ c ∷ d ∷ items) puts here held each =
      closed_whole m (CopyOf g m) true (a ∷ b ∷ c ∷ d ∷ items) 0x74 ops.Tuple puts refl refl
      (λ x p h. each x p (has-first x (a ∷ b ∷ c ∷ d ∷ items) (Byte 0x74 ∷ []) h))
      (tuple_closes m (a ∷ b ∷ c ∷ d ∷ items) true Marked ops.Tuple here (takes_marked (a ∷ b ∷ c ∷ d ∷ items)) (λ s at. refl))

  -- ---- lists

  list_grows : (m : ℕ) (items : List ℕ) (marked : Bool) (extent : Extent) (op : Op) → slice_get g m ≡ Some (kinds.List items) → Takes extent marked items →
      ((s : State) (at : ℕ) → step op at (pos 0) [] s ≡ append_to at s (values_taken extent s.stack)) → Grows sr (λ o x. x ≡ kinds.List []) (CopyOf g m) items marked op
  list_grows m items marked extent op here takes is s o numbers stack j x empty found e at_j = (
    kinds.List numbers,
    is_copy g m o (kinds.List numbers) (kinds.List items) here found,
    λ at. is s at ∙ ap (λ (l : List OnStack). append_to at s (values_taken extent l)) e ∙ ap (append_to at s) (takes o numbers (Value j ∷ stack) found)
        ∙ ap (λ (f : Option Node). changed at s j stack (added (additions.Values numbers) f)) (at_j ∙ ap (λ (y : Node). Some y) empty),
  )

  pub list_whole : (m : ℕ) (items puts : List ℕ) → slice_get g m ≡ Some (kinds.List items) → Each (items_in (list_parts items)) → Whole m (CopyOf g m) (list_parts items) puts
  list_whole m [] puts here each =
      open_weaker g m (λ o x. x ≡ kinds.List []) (CopyOf g m) (whole_of (list_parts []) puts) puts (m ∷ []) (λ o x e. is_copy g m o x (kinds.List []) here (subst (λ (y : Node). IsCopy o y (Some (kinds.List []))) (sym e) tt))
      (empty_open sr g m (kinds.List []) 0x5d ops.EmptyList puts refl refl refl)
  list_whole m (a ∷ []) puts here each =
      grown_whole m (kinds.List []) (CopyOf g m) 0x5d ops.EmptyList false (a ∷ []) 0x61 ops.Append puts refl refl refl refl refl (ap is_tuple here) each
      (list_grows m (a ∷ []) false (Top 1) ops.Append here (takes_one a) (λ s at. refl))
  list_whole m (a ∷ b ∷ items) puts here each =
      grown_whole m (kinds.List []) (CopyOf g m) 0x5d ops.EmptyList true (a ∷ b ∷ items) 0x65 ops.Appends puts refl refl refl refl refl (ap is_tuple here)
      (λ x p h. each x p (has-first x (a ∷ b ∷ items) (Byte 0x65 ∷ []) h))
      (list_grows m (a ∷ b ∷ items) true Marked ops.Appends here (takes_marked (a ∷ b ∷ items)) (λ s at. refl))

  -- ---- dictionaries

  dict_grows : (m : ℕ) (pairs : List (ℕ × ℕ)) (marked : Bool) (extent : Extent) (op : Op) → slice_get g m ≡ Some (kinds.Dict pairs) → Takes extent marked (flat pairs) →
      ((s : State) (at : ℕ) → step op at (pos 0) [] s ≡ set_in at s (values_taken extent s.stack)) → Grows sr (λ o x. x ≡ kinds.Dict []) (CopyOf g m) (flat pairs) marked op
  dict_grows m pairs marked extent op here takes is s o numbers stack j x empty found e at_j =
      let r = pairs_back o numbers pairs found in (
        kinds.Dict r.0,
        is_copy g m o (kinds.Dict r.0) (kinds.Dict pairs) here r.2,
        λ at. is s at ∙ ap (λ (l : List OnStack). set_in at s (values_taken extent l)) e ∙ ap (set_in at s) (takes o numbers (Value j ∷ stack) found)
            ∙ ap (λ (ps : Option (List (ℕ × ℕ))). set_pairs at s ps (Value j ∷ stack)) r.1
            ∙ ap (λ (f : Option Node). changed at s j stack (added (additions.Pairs r.0) f)) (at_j ∙ ap (λ (y : Node). Some y) empty),
      )

  pub dict_whole : (m : ℕ) (pairs : List (ℕ × ℕ)) (puts : List ℕ) → slice_get g m ≡ Some (kinds.Dict pairs) → Each (items_in (dict_parts pairs)) → Whole m (CopyOf g m) (dict_parts pairs) puts
  dict_whole m [] puts here each =
      open_weaker g m (λ o x. x ≡ kinds.Dict []) (CopyOf g m) (whole_of (dict_parts []) puts) puts (m ∷ []) (λ o x e. is_copy g m o x (kinds.Dict []) here (subst (λ (y : Node). IsCopy o y (Some (kinds.Dict []))) (sym e) tt))
      (empty_open sr g m (kinds.Dict []) 0x7d ops.EmptyDict puts refl refl refl)
  dict_whole m (pair ∷ []) puts here each =
      grown_whole m (kinds.Dict []) (CopyOf g m) 0x7d ops.EmptyDict false (flat (pair ∷ [])) 0x73 ops.SetItem puts refl refl refl refl refl (ap is_tuple here) each
      (dict_grows m (pair ∷ []) false (Top 2) ops.SetItem here (takes_two pair.0 pair.1) (λ s at. refl))
  dict_whole m (pair ∷ next ∷ pairs) puts here each =
      let all : List (ℕ × ℕ) = pair ∷ next ∷ pairs in
      let e : Byte 0x7d ∷ wrapped true (flat all) 0x75 ≡ dict_parts all = ap (λ (l : List Part). Byte 0x7d ∷ Byte 0x28 ∷ (l ++ Byte 0x75 ∷ [])) (pair_items all) in
      subst (λ (l : List Part). Whole m (CopyOf g m) l puts) e
      (grown_whole m (kinds.Dict []) (CopyOf g m) 0x7d ops.EmptyDict true (flat all) 0x75 ops.SetItems puts refl refl refl refl refl (ap is_tuple here)
      (λ x p h. each x p (ap (λ (l : List Part). has x (items_in l)) (sym e) ∙ has-first x (flat all) (Byte 0x75 ∷ []) h))
      (dict_grows m all true Marked ops.SetItems here (takes_marked (flat all)) (λ s at. refl)))

  -- ---- references

  pub reference_whole : (m id : ℕ) (puts : List ℕ) → slice_get g m ≡ Some (kinds.Reference id) → Each (id ∷ []) → Whole m (CopyOf g m) (Item id ∷ Byte 0x51 ∷ []) puts
  reference_whole m id puts here each = closed_whole m (CopyOf g m) false (id ∷ []) 0x51 ops.BinPersid puts refl refl each closes
    where
      closes : Closes sr g (CopyOf g m) (id ∷ []) false ops.BinPersid
      closes s o [] stack tuples count found e = absurd found
      closes s o (n ∷ []) stack tuples count found e =
          (kinds.Reference n, (λ more. is_copy g m (o ++ more) (kinds.Reference n) (kinds.Reference id) here (get-more o more n id found.0)), λ at. ap (reference_of at s) e)
      closes s o (n ∷ n' ∷ l) stack tuples count found e = absurd found.1

-- What the text of an object builds, and that of each node.
use Rattle.std.proofs.Common.{◌≡◌, ℕ, ◌+◌, pos, Bool, true, false, cond, List, [], ◌∷◌, ◌++◌, Option, Some, None, Err, refl, arith, sym, ◌∙◌, ap, subst, append_assoc, inl, inr}
use Rattle.std.specs.Prelude.{slice_get}
use Rattle.std.proofs.lemmas.List.{append-nil}
use Rattle.pickle_ops.specs.declared.table.TheConstants.{TABLE}
use Rattle.pickle_ops.specs.declared.table.Op.{Op}
use Rattle.pickle_ops.specs.declared.table.Op.TheVariants as ops
use Rattle.pickle_ops.specs.declared.table.Kind.TheVariants as args
use Rattle.pickle_ops.specs.Rows.{row_in}
use Rattle.pickle_ops.specs.Laws.{SpelledIsRead}
use Rattle.pickle_reading.specs.declared.error.PickleError.TheVariants as errors
use Rattle.pickle_graph.specs.declared.node.Act.{Act}
use Rattle.pickle_graph.specs.declared.node.Act.TheVariants.{Append, Set, Build}
use Rattle.pickle_graph.specs.declared.node.Node.{Node}
use Rattle.pickle_graph.specs.declared.node.Node.TheVariants as kinds
use Rattle.pickle_reading.specs.declared.additions.Addition.TheVariants as additions
use Rattle.pickle_graph.specs.declared.parts.Part.{Part}
use Rattle.pickle_graph.specs.declared.parts.Part.TheVariants.{Byte}
use Rattle.pickle_reading.specs.Nodes.{State}
use Rattle.pickle_reading.specs.declared.state.Item.{Item as OnStack}
use Rattle.pickle_reading.specs.declared.state.Extent.TheVariants.{Top}
use Rattle.pickle_graph.specs.Graph.{is_tuple, IsNode}
use Rattle.pickle_reading.specs.Stacks.{values_taken}
use Rattle.pickle_reading.specs.Additions.{added}
use Rattle.pickle_reading.specs.Steps.{make, changed}
use Rattle.pickle_reading.specs.Nodes.{step, append_to, set_in, build_of, object_of}
use Rattle.pickle_reading.specs.Reading.{is_stop}
use Rattle.pickle_graph.specs.Parts.{item_parts, act_parts, object_parts, object_byte, parts_of, is_held, items_in}
use Rattle.pickle_writing.specs.Spelling.{Piece, put_number, no_piece, followed, parts_piece, held_piece, node_piece, leaf_text}
use Rattle.pickle_graph.specs.Same.{has, HasOrigin, ActsStandFor, IsCopy}
use Rattle.pickle_graph.specs.WalkLaws.{cases_bool, clash}
use Rattle.pickle_round_trip.proofs.LeafBack.{leaf_back}
use Rattle.pickle_round_trip.proofs.Standing.{get-more, acts-more, acts-append}
use Rattle.pickle_round_trip.proofs.Building.{Shown, piece_is, leaf_shown}
use Rattle.pickle_round_trip.proofs.Growing.{front, OpenShown, Keeps, finished, get_shown, put_shown, grow_open, Closes, Grows}
use Rattle.pickle_round_trip.proofs.Visits.{visit_parts, visit_held, visit_node, wrapped, wrapped_piece, wrapped_visits, parts-append, visit-append, followed_assoc, has-first, has-second, items-append}
use Rattle.pickle_round_trip.proofs.NodeTexts.{CopyOf, is_copy, open_weaker, open_as, Each, items_shown, whole_of, Whole, closed_whole, tuple_whole, list_whole, dict_whole, reference_whole}

-- an object to which so much was done
record Half (callee arguments : ℕ) (by_new : Bool) (done : List Act) (o : List ℕ) (x : Node) : Type 0 where
  c : ℕ
  a : ℕ
  acts : List Act
  is : x ≡ kinds.Object c a by_new acts
  called : HasOrigin o c callee
  taken : HasOrigin o a arguments
  did : ActsStandFor o acts done

half_keeps : (g : List Node) (m callee arguments : ℕ) (by_new : Bool) (done : List Act) → is_tuple (slice_get g m) ≡ false → Keeps g m (Half callee arguments by_new done)
half_keeps g m callee arguments by_new done none = record {
  more = λ o p x h. record { c = h.c; a = h.a; acts = h.acts; is = h.is; called = get-more o p h.c callee h.called; taken = get-more o p h.a arguments h.taken; did = acts-more o p h.acts done h.did };
  tuple = λ o x h t. clash (is_tuple (slice_get g m)) t none;
}

-- one more act is done
half_more : (callee arguments : ℕ) (by_new : Bool) (done : List Act) (o : List ℕ) (x : Node) (n act : Act) → (h : Half callee arguments by_new done o x) → ActsStandFor o (n ∷ []) (act ∷ []) →
    Half callee arguments by_new (done ++ act ∷ []) o (kinds.Object h.c h.a by_new (h.acts ++ n ∷ []))
half_more callee arguments by_new done o x n act h s =
    record { c = h.c; a = h.a; acts = h.acts ++ n ∷ []; is = refl; called = h.called; taken = h.taken; did = acts-append o h.acts done (n ∷ []) (act ∷ []) h.did s }

acts_step : (act : Act) (acts : List Act) → act_parts (act ∷ acts) ≡ act_parts (act ∷ []) ++ act_parts acts
acts_step (Append value) acts = refl
acts_step (Set key value) acts = refl
acts_step (Build state) acts = refl

module _ (sr : SpelledIsRead) (g : List Node) (go : ℕ → List ℕ → Piece) (vis : ℕ → List ℕ → List ℕ) where
  -- ---- acts

  append_grows : (callee arguments : ℕ) (by_new : Bool) (done : List Act) (value : ℕ) → Grows sr (Half callee arguments by_new done) (Half callee arguments by_new (done ++ Append value ∷ [])) (value ∷ []) false ops.Append
  append_grows callee arguments by_new done value s o [] stack j x h found e at_j = absurd found
  append_grows callee arguments by_new done value s o (n ∷ []) stack j x h found e at_j = (
    kinds.Object h.c h.a by_new (h.acts ++ Append n ∷ []),
    half_more callee arguments by_new done o x (Append n) (Append value) h (found.0, tt),
    λ at. ap (λ (l : List OnStack). append_to at s (values_taken (Top 1) l)) e ∙ ap (λ (f : Option Node). changed at s j stack (added (additions.Values (n ∷ [])) f)) (at_j ∙ ap (λ (y : Node). Some y) h.is),
  )
  append_grows callee arguments by_new done value s o (n ∷ n' ∷ l) stack j x h found e at_j = absurd found.1

  set_grows : (callee arguments : ℕ) (by_new : Bool) (done : List Act) (key value : ℕ) → Grows sr (Half callee arguments by_new done) (Half callee arguments by_new (done ++ Set key value ∷ [])) (key ∷ value ∷ []) false ops.SetItem
  set_grows callee arguments by_new done key value s o [] stack j x h found e at_j = absurd found
  set_grows callee arguments by_new done key value s o (k ∷ []) stack j x h found e at_j = absurd found.1
  set_grows callee arguments by_new done key value s o (k ∷ v ∷ []) stack j x h found e at_j = (
    kinds.Object h.c h.a by_new (h.acts ++ Set k v ∷ []),
    half_more callee arguments by_new done o x (Set k v) (Set key value) h ((found.0, found.1.0), tt),
    λ at. ap (λ (l : List OnStack). set_in at s (values_taken (Top 2) l)) e ∙ ap (λ (f : Option Node). changed at s j stack (added (additions.Pairs ((k, v) ∷ [])) f)) (at_j ∙ ap (λ (y : Node). Some y) h.is),
  )
  set_grows callee arguments by_new done key value s o (k ∷ v ∷ w ∷ l) stack j x h found e at_j = absurd found.1.1

  build_grows : (callee arguments : ℕ) (by_new : Bool) (done : List Act) (state : ℕ) → Grows sr (Half callee arguments by_new done) (Half callee arguments by_new (done ++ Build state ∷ [])) (state ∷ []) false ops.Build
  build_grows callee arguments by_new done state s o [] stack j x h found e at_j = absurd found
  build_grows callee arguments by_new done state s o (n ∷ []) stack j x h found e at_j = (
    kinds.Object h.c h.a by_new (h.acts ++ Build n ∷ []),
    half_more callee arguments by_new done o x (Build n) (Build state) h (found.0, tt),
    λ at. ap (build_of at s) e ∙ ap (λ (f : Option Node). changed at s j stack (added (additions.State n) f)) (at_j ∙ ap (λ (y : Node). Some y) h.is),
  )
  build_grows callee arguments by_new done state s o (n ∷ n' ∷ l) stack j x h found e at_j = absurd found.1

  -- the text of an act behind an object's
  grown_act : (m : ℕ) (P Q : List ℕ → Node → Type 0) (items : List ℕ) (byte : ℕ) (op : Op) (p : Piece) (puts vs : List ℕ) → row_in TABLE.rows byte ≡ Some (record { byte = byte; op = op; kind = args.Nothing }) → is_stop op ≡ false → Keeps g m P →
      Each sr g go vis items → Grows sr P Q items false op → OpenShown g m P p puts vs → OpenShown g m Q (followed p (parts_piece go (wrapped false items byte) p.puts)) puts (vs ++ visit_parts vis go (wrapped false items byte) p.puts)
  grown_act m P Q items byte op p puts vs listed on keeps each grows a =
      let q : Piece = parts_piece go (item_parts items) p.puts in
      let us : List ℕ = visit_parts vis go (item_parts items) p.puts in
      let b = grow_open sr g m P Q items false byte op p q puts vs us listed on keeps a (items_shown sr g go vis items p.puts each) grows in
      let w = wrapped_piece go false items byte p.puts in
      let v = wrapped_visits go vis false items byte p.puts in
      open_as g m Q (record { text = p.text ++ (front false ++ (q.text ++ byte ∷ [])); puts = q.puts; made = p.made + q.made }) (followed p (parts_piece go (wrapped false items byte) p.puts)) puts (vs ++ us) (vs ++ visit_parts vis go (wrapped false items byte) p.puts)
      (ap (followed p) (sym w)) (λ k. ap (λ (l : List ℕ). Rattle.pickle_writing.specs.Shared.times k (vs ++ l)) (sym v)) b

  one_act : (m callee arguments : ℕ) (by_new : Bool) (done : List Act) (act : Act) (p : Piece) (puts vs : List ℕ) → is_tuple (slice_get g m) ≡ false → Each sr g go vis (items_in (act_parts (act ∷ []))) →
      OpenShown g m (Half callee arguments by_new done) p puts vs → OpenShown g m (Half callee arguments by_new (done ++ act ∷ [])) (followed p (parts_piece go (act_parts (act ∷ [])) p.puts)) puts (vs ++ visit_parts vis go (act_parts (act ∷ [])) p.puts)
  one_act m callee arguments by_new done (Append value) p puts vs none each a =
      grown_act m (Half callee arguments by_new done) (Half callee arguments by_new (done ++ Append value ∷ [])) (value ∷ []) 0x61 ops.Append p puts vs refl refl (half_keeps g m callee arguments by_new done none) each (append_grows callee arguments by_new done value) a
  one_act m callee arguments by_new done (Set key value) p puts vs none each a =
      grown_act m (Half callee arguments by_new done) (Half callee arguments by_new (done ++ Set key value ∷ [])) (key ∷ value ∷ []) 0x73 ops.SetItem p puts vs refl refl (half_keeps g m callee arguments by_new done none) each (set_grows callee arguments by_new done key value) a
  one_act m callee arguments by_new done (Build state) p puts vs none each a =
      grown_act m (Half callee arguments by_new done) (Half callee arguments by_new (done ++ Build state ∷ [])) (state ∷ []) 0x62 ops.Build p puts vs refl refl (half_keeps g m callee arguments by_new done none) each (build_grows callee arguments by_new done state) a

  all_acts : (m callee arguments : ℕ) (by_new : Bool) (acts done : List Act) (p : Piece) (puts vs : List ℕ) → is_tuple (slice_get g m) ≡ false → Each sr g go vis (items_in (act_parts acts)) →
      OpenShown g m (Half callee arguments by_new done) p puts vs → OpenShown g m (Half callee arguments by_new (done ++ acts)) (followed p (parts_piece go (act_parts acts) p.puts)) puts (vs ++ visit_parts vis go (act_parts acts) p.puts)
  all_acts m callee arguments by_new [] done p puts vs none each a =
      subst (λ (l : List Act). OpenShown g m (Half callee arguments by_new l) (followed p (no_piece p.puts)) puts (vs ++ [])) (sym (append-nil done))
      (open_as g m (Half callee arguments by_new done) p (followed p (no_piece p.puts)) puts vs (vs ++ []) (piece_is p (followed p (no_piece p.puts)) (sym (append-nil p.text)) refl (omega arith)) (λ k. ap (Rattle.pickle_writing.specs.Shared.times k) (sym (append-nil vs))) a)
  all_acts m callee arguments by_new (act ∷ acts) done p puts vs none each a =
      let step : act_parts (act ∷ acts) ≡ act_parts (act ∷ []) ++ act_parts acts = acts_step act acts in
      let p₁ : Piece = parts_piece go (act_parts (act ∷ [])) p.puts in
      let us : List ℕ = visit_parts vis go (act_parts (act ∷ [])) p.puts in
      let first = one_act m callee arguments by_new done act p puts vs none (λ x q h. each x q (ap (λ (l : List Part). has x (items_in l)) step ∙ ap (has x) (items-append (act_parts (act ∷ [])) (act_parts acts)) ∙ Rattle.pickle_graph.specs.WalkLaws.has-left x (items_in (act_parts (act ∷ []))) (items_in (act_parts acts)) h)) a in
      let rest = all_acts m callee arguments by_new acts (done ++ act ∷ []) (followed p p₁) puts (vs ++ us) none (λ x q h. each x q (ap (λ (l : List Part). has x (items_in l)) step ∙ has-second x (act_parts (act ∷ [])) (act_parts acts) h)) first in
      let p₂ : Piece = parts_piece go (act_parts acts) p₁.puts in
      let ws : List ℕ = visit_parts vis go (act_parts acts) p₁.puts in
      let pieces : followed (followed p p₁) p₂ ≡ followed p (parts_piece go (act_parts (act ∷ acts)) p.puts) =
      sym (followed_assoc p p₁ p₂) ∙ ap (followed p) (sym (parts-append go (act_parts (act ∷ [])) (act_parts acts) p.puts)) ∙ ap (λ (l : List Part). followed p (parts_piece go l p.puts)) (sym step) in
      let seen : (vs ++ us) ++ ws ≡ vs ++ visit_parts vis go (act_parts (act ∷ acts)) p.puts =
      append_assoc vs us ws ∙ ap (λ (l : List ℕ). vs ++ l) (sym (visit-append go vis (act_parts (act ∷ [])) (act_parts acts) p.puts)) ∙ ap (λ (l : List Part). vs ++ visit_parts vis go l p.puts) (sym step) in
      subst (λ (l : List Act). OpenShown g m (Half callee arguments by_new l) (followed p (parts_piece go (act_parts (act ∷ acts)) p.puts)) puts (vs ++ visit_parts vis go (act_parts (act ∷ acts)) p.puts)) (append_assoc done (act ∷ []) acts)
      (open_as g m (Half callee arguments by_new ((done ++ act ∷ []) ++ acts)) (followed (followed p p₁) p₂) (followed p (parts_piece go (act_parts (act ∷ acts)) p.puts)) puts ((vs ++ us) ++ ws) (vs ++ visit_parts vis go (act_parts (act ∷ acts)) p.puts)
      pieces (λ k. ap (Rattle.pickle_writing.specs.Shared.times k) seen) rest)

  -- ---- objects

  abbrev object_op : Bool → Op
  object_op true = ops.NewObj
  object_op false = ops.Reduce

  object_listed : (by_new : Bool) → row_in TABLE.rows (object_byte by_new) ≡ Some (record { byte = object_byte by_new; op = object_op by_new; kind = args.Nothing })
  object_listed true = refl
  object_listed false = refl

  object_on : (by_new : Bool) → is_stop (object_op by_new) ≡ false
  object_on true = refl
  object_on false = refl

  object_does : (by_new : Bool) (s : State) (at : ℕ) → step (object_op by_new) at (pos 0) [] s ≡ object_of by_new at s s.stack
  object_does true s at = refl
  object_does false s at = refl

  object_closes : (callee arguments : ℕ) (by_new : Bool) → is_tuple (slice_get g arguments) ≡ true → Closes sr g (Half callee arguments by_new []) (callee ∷ arguments ∷ []) false (object_op by_new)
  object_closes callee arguments by_new tuple s o [] stack tuples count found e = absurd found
  object_closes callee arguments by_new tuple s o (c ∷ []) stack tuples count found e = absurd found.1
  object_closes callee arguments by_new tuple s o (c ∷ a ∷ []) stack tuples count found e =
      let t : is_tuple (slice_get s.nodes a) ≡ true = tuples a arguments found.1.0 tuple in (
        kinds.Object c a by_new [],
        (λ more. record { c = c; a = a; acts = []; is = refl; called = get-more o more c callee found.0; taken = get-more o more a arguments found.1.0; did = tt }),
        λ at. object_does by_new s at ∙ ap (object_of by_new at s) e ∙ ap (λ (b : Bool). cond b (make at (kinds.Object c a by_new []) (record s { stack = stack })) (Err (errors.Stack at))) t,
      )
  object_closes callee arguments by_new tuple s o (c ∷ a ∷ z ∷ l) stack tuples count found e = absurd found.1.1

  object_whole : (m callee arguments : ℕ) (by_new : Bool) (acts : List Act) (puts : List ℕ) → slice_get g m ≡ Some (kinds.Object callee arguments by_new acts) → is_tuple (slice_get g arguments) ≡ true →
      Each sr g go vis (items_in (object_parts callee arguments by_new acts)) → Whole sr g go vis m (CopyOf g m) (object_parts callee arguments by_new acts) puts
  object_whole m callee arguments by_new acts puts here tuple each =
      let head : List Part = wrapped false (callee ∷ arguments ∷ []) (object_byte by_new) in
      let none : is_tuple (slice_get g m) ≡ false = ap is_tuple here in
      let a = closed_whole sr g go vis m (Half callee arguments by_new []) false (callee ∷ arguments ∷ []) (object_byte by_new) (object_op by_new) puts (object_listed by_new) (object_on by_new)
      (λ x q h. each x q (has-first x (callee ∷ arguments ∷ []) (Byte (object_byte by_new) ∷ act_parts acts) h)) (object_closes callee arguments by_new tuple) in
      let h : Piece = parts_piece go head puts in
      let w : Piece = whole_of sr g go vis head puts in
      let us : List ℕ = visit_parts vis go head puts in
      let b = all_acts m callee arguments by_new acts [] w puts (m ∷ us) none (λ x q i. each x q (has-second x head (act_parts acts) i)) a in
      let p₂ : Piece = parts_piece go (act_parts acts) h.puts in
      let ws : List ℕ = visit_parts vis go (act_parts acts) h.puts in
      let pieces : followed w p₂ ≡ whole_of sr g go vis (head ++ act_parts acts) puts =
      piece_is (followed w p₂) (record { text = h.text ++ p₂.text; puts = p₂.puts; made = h.made + p₂.made + 1 }) refl refl (omega arith)
      ∙ ap (λ (x : Piece). record { text = x.text; puts = x.puts; made = x.made + 1 }) (sym (parts-append go head (act_parts acts) puts)) in
      let seen : (m ∷ us) ++ ws ≡ m ∷ visit_parts vis go (head ++ act_parts acts) puts = ap (λ (l : List ℕ). m ∷ l) (sym (visit-append go vis head (act_parts acts) puts)) in
      open_weaker g m (Half callee arguments by_new acts) (CopyOf g m) (whole_of sr g go vis (head ++ act_parts acts) puts) puts (m ∷ visit_parts vis go (head ++ act_parts acts) puts)
      (λ o x k. is_copy g m o x (kinds.Object callee arguments by_new acts) here
      (subst (λ (y : Node). IsCopy o y (Some (kinds.Object callee arguments by_new acts))) (sym k.is) (record { called = k.called; taken = k.taken; made = refl; done = k.did })))
      (open_as g m (Half callee arguments by_new acts) (followed w p₂) (whole_of sr g go vis (head ++ act_parts acts) puts) puts ((m ∷ us) ++ ws) (m ∷ visit_parts vis go (head ++ act_parts acts) puts)
      pieces (λ k. ap (Rattle.pickle_writing.specs.Shared.times k) seen) b)

  -- ---- each node

  leaf-copy : (x : Node) → is_held x ≡ false → (o : List ℕ) → IsCopy o x (Some x)
  leaf-copy kinds.None h o = tt
  leaf-copy (kinds.Bool b) h o = refl
  leaf-copy (kinds.Number z) h o = refl
  leaf-copy (kinds.Wide b) h o = refl
  leaf-copy (kinds.Float b) h o = refl
  leaf-copy (kinds.Bytes b) h o = refl
  leaf-copy (kinds.OldText b) h o = refl
  leaf-copy (kinds.Text b) h o = refl
  leaf-copy (kinds.Tuple []) h o = tt
  leaf-copy (kinds.Tuple (a ∷ l)) h o = absurd cc
  leaf-copy (kinds.List l) h o = absurd cc
  leaf-copy (kinds.Dict l) h o = absurd cc
  leaf-copy (kinds.Global a b) h o = (refl, refl)
  leaf-copy (kinds.Reference l) h o = absurd cc
  leaf-copy (kinds.Object c a b l) h o = absurd cc

  node_whole : (m : ℕ) (x : Node) (puts : List ℕ) → slice_get g m ≡ Some x → IsNode g x → is_held x ≡ true → Each sr g go vis (items_in (parts_of x)) → Whole sr g go vis m (CopyOf g m) (parts_of x) puts
  node_whole m (kinds.Tuple items) puts here ok held each = tuple_whole sr g go vis m items puts here held each
  node_whole m (kinds.List items) puts here ok held each = list_whole sr g go vis m items puts here each
  node_whole m (kinds.Dict pairs) puts here ok held each = dict_whole sr g go vis m pairs puts here each
  node_whole m (kinds.Reference id) puts here ok held each = reference_whole sr g go vis m id puts here each
  node_whole m (kinds.Object callee arguments by_new acts) puts here ok held each = object_whole m callee arguments by_new acts puts here ok.taken each
  node_whole m kinds.None puts here ok held each = absurd cc
  node_whole m (kinds.Bool b) puts here ok held each = absurd cc
  node_whole m (kinds.Number z) puts here ok held each = absurd cc
  node_whole m (kinds.Wide b) puts here ok held each = absurd cc
  node_whole m (kinds.Float b) puts here ok held each = absurd cc
  node_whole m (kinds.Bytes b) puts here ok held each = absurd cc
  node_whole m (kinds.OldText b) puts here ok held each = absurd cc
  node_whole m (kinds.Text b) puts here ok held each = absurd cc
  node_whole m (kinds.Global a b) puts here ok held each = absurd cc

  held_shown : (m : ℕ) (parts : List Part) (puts : List ℕ) (shared : Bool) (found : Option ℕ) → put_number m puts ≡ found → Whole sr g go vis m (CopyOf g m) parts puts →
      Shown g m (held_piece shared found m puts (parts_piece go parts puts)) puts (visit_held found m (visit_parts vis go parts puts))
  held_shown m parts puts shared (Some k) e w = get_shown sr g m k puts e
  held_shown m parts puts false None e w = finished g m (CopyOf g m) (whole_of sr g go vis parts puts) puts (m ∷ visit_parts vis go parts puts) w (λ o x h. h)
  held_shown m parts puts true None e w =
      put_shown sr g m (whole_of sr g go vis parts puts) puts (m ∷ visit_parts vis go parts puts) w.few (finished g m (CopyOf g m) (whole_of sr g go vis parts puts) puts (m ∷ visit_parts vis go parts puts) w (λ o x h. h))

  pub node_shown : (shared : ℕ → Bool) (m : ℕ) (x : Node) (puts : List ℕ) → slice_get g m ≡ Some x → IsNode g x → Each sr g go vis (items_in (parts_of x)) → Shown g m (node_piece shared go m puts (Some x)) puts (visit_node vis go m puts (Some x))
  node_shown shared m x puts here ok each = elim (cases_bool (is_held x)) [
    | inl h ↦ rw h (held_shown m (parts_of x) puts (shared m) (put_number m puts) refl (node_whole m x puts here ok h each))
    | inr h ↦ rw h (leaf_shown sr g m x (leaf_text x) puts here (leaf-copy x h) (leaf_back g x ok h))
  ]

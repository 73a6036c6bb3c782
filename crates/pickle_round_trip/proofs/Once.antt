-- No node with items is written twice.
use Rattle.std.proofs.Common.{◌≡◌, ℕ, zero, suc, ◌+◌, ◌<◌, ◌≤◌, Bool, true, false, cond, List, [], ◌∷◌, Option, Some, None, refl, arith, sym, ◌∙◌, ap, eqb, ltb, inl, inr}
use Rattle.std.specs.Prelude.{slice_get, is_some}
use Rattle.std.proofs.lemmas.Bool.{eqb-true, eq-eqb, lt-ltb}
use Rattle.pickle_graph.specs.declared.node.Node.{Node}
use Rattle.pickle_graph.specs.declared.parts.Part.{Part}
use Rattle.pickle_graph.specs.declared.parts.Part.TheVariants.{Byte, Item}
use Rattle.pickle_writing.specs.declared.depth.TheConstants.{WALK_LIMIT}
use Rattle.pickle_graph.specs.Parts.{items_in, items_at, parts_of, is_held}
use Rattle.pickle_graph.specs.Walks.{some_item, has_walk, has_way, leads}
use Rattle.pickle_writing.specs.Shared.{times, ends_from, ends_of, is_shared}
use Rattle.pickle_writing.specs.Spelling.{Piece, put_number, held_piece, parts_piece, node_piece, piece_of}
use Rattle.pickle_graph.specs.Same.{has, holds_items, is_held_at, StandOnce}
use Rattle.pickle_graph.specs.WalkLaws.{clash, cases_bool, not_true, has-head, has-here, has-later, some-has, some-find, walk-less, walk-item, way-walk, way-step, round-walk}
use Rattle.pickle_writing.specs.SharedLaws.{ends-same, ends-more}
use Rattle.pickle_round_trip.proofs.Visits.{visit_parts, visit_held, visit_node, visits}

-- ---- ways

way-leads : (n j : ℕ) (ns : List Node) (a b : ℕ) → j ≤ n → has_way j ns a b ≡ true → leads n ns a b ≡ true
unfolding has_way leads
way-leads zero zero ns a b l h = h
way-leads zero (suc j) ns a b l h = absurd (omega arith)
way-leads (suc n) zero ns a b l h = rw h refl
way-leads (suc n) (suc j) ns a b l h =
    let f = some-find (λ m. has_way j ns m b) (items_at ns a) h in
    let k : some_item (λ m. leads n ns m b) (items_at ns a) ≡ true = some-has (λ m. leads n ns m b) f.0 (items_at ns a) f.1 (way-leads n j ns f.0 b (omega arith) f.2) in
    elim (cases_bool (eqb a b)) [ inl e ↦ rw e refl | inr e ↦ rw e k ]

-- a way from the root, where no walk is too long
reached-way : (ns : List Node) (root x j : ℕ) → has_walk (suc WALK_LIMIT) ns root ≡ false → has_way j ns root x ≡ true → leads WALK_LIMIT ns root x ≡ true
unfolding has_walk
reached-way ns root x j short w = elim (cases_bool (ltb WALK_LIMIT j)) [
  | inl e ↦
      let long : has_walk (j + 0) ns root ≡ true = way-walk j 0 ns root x w refl in
      let less = Rattle.std.proofs.lemmas.Bool.ltb-true WALK_LIMIT j e in
      clash (has_walk (suc WALK_LIMIT) ns root) (walk-less (j + 0) (suc WALK_LIMIT) ns root (omega (arith, less)) long) short
  | inr e ↦ way-leads WALK_LIMIT j ns root x (Rattle.std.proofs.lemmas.Bool.ltb-false WALK_LIMIT j e) w
]

-- ---- counts

times-none : (k : ℕ) (xs : List ℕ) → has k xs ≡ false → times k xs ≡ 0
times-none k [] h = refl
times-none k (x ∷ xs) h = elim (cases_bool (eqb x k)) [
  | inl e ↦ clash (has k (x ∷ xs)) (has-here k x xs (eqb-true x k e)) h
  | inr e ↦ let r = times-none k xs (not_true (has k xs) (λ t. clash (has k (x ∷ xs)) (has-later k x xs t) h)) in rw e (omega (arith, r))
]

times-has : (k : ℕ) (xs : List ℕ) → has k xs ≡ true → 0 < times k xs
times-has k [] h = absurd cc
times-has k (x ∷ xs) h = elim (has-head k x xs h) [
  | inl e ↦ let t = eq-eqb x k e in rw t (omega arith)
  | inr e ↦ let t = times-has k xs e in omega (arith, t)
]

times-one : (k x : ℕ) → x ≡ k → times k (x ∷ []) ≡ 1
times-one k x e = let t = eq-eqb x k e in rw t refl

times-other : (k x : ℕ) → (x ≡ k → ⊥) → times k (x ∷ []) ≡ 0
times-other k x h = let t = not_true (eqb x k) (λ u. h (eqb-true x k u)) in rw t refl

-- from these counts no node with items stands twice
pub apart-times : (ns : List Node) (xs : List ℕ) → ((k : ℕ) → is_held_at ns k ≡ true → times k xs ≤ 1) → StandOnce ns xs
apart-times ns [] h = tt
apart-times ns (x ∷ xs) h = (
  λ held. not_true (has x xs) (λ t. let a = h x held in let b = times-has x xs t in let e = eq-eqb x x refl in let d : times x (x ∷ xs) ≡ 1 + times x xs = rw e refl in omega (arith, a, b, d)),
  apart-times ns xs (λ k held. let a = h k held in omega (arith, a)),
)

module _ (ns : List Node) (root : ℕ) (short : has_walk (suc WALK_LIMIT) ns root ≡ false) where
  abbrev reached : ℕ → Bool
  reached i = leads WALK_LIMIT ns root i

  -- reached nodes that were not begun
  abbrev rest : List ℕ → List ℕ → ℕ → Bool
  rest done busy i = cond (has i done) false (cond (has i busy) false (reached i))

  abbrev left : List ℕ → List ℕ → ℕ → ℕ
  left done busy k = times k (ends_from (rest done busy) 0 ns)

  abbrev most : ℕ → ℕ
  most k = times k (ends_of ns root)

  left-begun : (done busy : List ℕ) (x k : ℕ) → has x done ≡ false → has x busy ≡ false → reached x ≡ true → left done busy k ≡ times k (items_at ns x) + left done (x ∷ busy) k
  left-begun done busy x k d b r =
      let e : 0 + x ≡ x = omega arith in
      let s = eq-eqb x (0 + x) (sym e) in
      let d₀ : has (0 + x) done ≡ false = ap (λ (y : ℕ). has y done) e ∙ d in
      let b₀ : has (0 + x) busy ≡ false = ap (λ (y : ℕ). has y busy) e ∙ b in
      let r₀ : reached (0 + x) ≡ true = ap reached e ∙ r in
      ends-more (rest done (x ∷ busy)) (rest done busy) 0 x ns k (rw (d₀, b₀, r₀) refl) (rw (d₀, s) refl)
      (λ j f. let t : eqb x j ≡ false = not_true (eqb x j) (λ u. f (sym (eqb-true x j u) ∙ sym e)) in rw t refl)

  left-done : (done busy : List ℕ) (x k : ℕ) → left done (x ∷ busy) k ≡ left (x ∷ done) busy k
  left-done done busy x k = ap (times k) (ends-same (rest done (x ∷ busy)) (rest (x ∷ done) busy) 0 ns (λ j l. same j))
    where
      same : (j : ℕ) → rest done (x ∷ busy) j ≡ rest (x ∷ done) busy j
      same j = elim (cases_bool (eqb x j)) [
        | inl e ↦ elim (cases_bool (has j done)) [ inl d ↦ rw (e, d) refl | inr d ↦ rw (e, d) refl ]
        | inr e ↦ rw e refl
      ]

  -- Where the writing stands: nodes whose text is whole, nodes whose text was begun and is not whole, puts, how often each node
  -- was met, and what is still to be met: some nodes now, others later.
  record Stage (done busy puts : List ℕ) (met later : ℕ → ℕ) (now : List ℕ) : Type 0 where
    budget : (k : ℕ) → met k + times k now + later k + left done busy k ≤ most k
    met_done : (k : ℕ) → has k done ≡ true → 0 < met k
    met_busy : (k : ℕ) → has k busy ≡ true → 0 < met k
    put : (k : ℕ) → is_shared ns root k ≡ true → has k done ≡ true → is_some (put_number k puts) ≡ true
    single : (k : ℕ) → times k done ≤ 1
    apart : (k : ℕ) → has k busy ≡ true → has k done ≡ false

  record After (done busy puts : List ℕ) (later : ℕ → ℕ) (seen : List ℕ) : Type 0 where
    now_done : List ℕ
    met : ℕ → ℕ
    stage : Stage now_done busy puts met later []
    grown : (k : ℕ) → is_held_at ns k ≡ true → times k now_done ≡ times k seen + times k done

  -- a node is met, and nothing is begun
  passed : (done busy puts seen : List ℕ) (met later : ℕ → ℕ) (x : ℕ) → Stage done busy puts met later (x ∷ []) → ((k : ℕ) → is_held_at ns k ≡ true → times k seen ≡ 0) → After done busy puts later seen
  passed done busy puts seen met later x st none = record {
    now_done = done;
    met = λ k. met k + times k (x ∷ []);
    stage = record {
      budget = λ k. let b = st.budget k in omega (arith, b);
      met_done = λ k h. let b = st.met_done k h in omega (arith, b);
      met_busy = λ k h. let b = st.met_busy k h in omega (arith, b);
      put = st.put;
      single = st.single;
      apart = st.apart;
    };
    grown = λ k h. let n = none k h in omega (arith, n);
  }

  abbrev Step : (ℕ → List ℕ → Piece) → (ℕ → List ℕ → List ℕ) → List ℕ → ℕ → Type 0
  Step go vis busy c = (done puts : List ℕ) (met later : ℕ → ℕ) → Stage done busy puts met later (c ∷ []) → After done busy (go c puts).puts later (vis c puts)

  parts-after : (go : ℕ → List ℕ → Piece) (vis : ℕ → List ℕ → List ℕ) (busy : List ℕ) (parts : List Part) (done puts : List ℕ) (met later : ℕ → ℕ) → ((c : ℕ) → has c (items_in parts) ≡ true → Step go vis busy c) →
      Stage done busy puts met later (items_in parts) → After done busy (parts_piece go parts puts).puts later (visit_parts vis go parts puts)
  parts-after go vis busy [] done puts met later each st = record { now_done = done; met = met; stage = st; grown = λ k h. omega arith }
  parts-after go vis busy (Byte byte ∷ parts) done puts met later each st = parts-after go vis busy parts done puts met later each st
  parts-after go vis busy (Item c ∷ parts) done puts met later each st =
      let a = each c (has-here c c (items_in parts) refl) done puts met (λ k. times k (items_in parts) + later k) (record {
        budget = λ k. let b = st.budget k in omega (arith, b);
        met_done = st.met_done;
        met_busy = st.met_busy;
        put = st.put;
        single = st.single;
        apart = st.apart;
      }) in
      let b = parts-after go vis busy parts a.now_done (go c puts).puts a.met later (λ d h. each d (has-later d c (items_in parts) h)) (record {
        budget = λ k. let e = a.stage.budget k in omega (arith, e);
        met_done = a.stage.met_done;
        met_busy = a.stage.met_busy;
        put = a.stage.put;
        single = a.stage.single;
        apart = a.stage.apart;
      }) in
      record {
        now_done = b.now_done;
        met = b.met;
        stage = b.stage;
        grown = λ k h. let e = a.grown k h in let f = b.grown k h in let g = Rattle.pickle_writing.specs.SharedLaws.times-append k (vis c puts) (visit_parts vis go parts (go c puts).puts) in omega (arith, e, f, g);
      }

  abbrev puts_after : Bool → ℕ → List ℕ → List ℕ
  puts_after true x puts = x ∷ puts
  puts_after false x puts = puts

  -- the text of a node is whole
  whole-after : (done busy puts seen : List ℕ) (later : ℕ → ℕ) (x : ℕ) (shared : Bool) → is_shared ns root x ≡ shared → has x busy ≡ false → After done (x ∷ busy) puts later seen → After done busy (puts_after shared x puts) later (x ∷ seen)
  whole-after done busy puts seen later x shared is new a = record {
    now_done = x ∷ a.now_done;
    met = a.met;
    stage = record {
      budget = λ k. let b = a.stage.budget k in let e = left-done a.now_done busy x k in omega (arith, b, e);
      met_done = λ k h. elim (has-head k x a.now_done h) [ inl e ↦ a.stage.met_busy k (has-here k x busy e) | inr e ↦ a.stage.met_done k e ];
      met_busy = λ k h. a.stage.met_busy k (has-later k x busy h);
      put = puts-have shared is;
      single = λ k. elim (cases_bool (eqb x k)) [
        | inl e ↦
            let none = times-none k a.now_done (a.stage.apart k (has-here k x busy (eqb-true x k e))) in
            rw e (omega (arith, none))
        | inr e ↦ let s = a.stage.single k in rw e (omega (arith, s))
      ];
      apart = λ k h. not_true (has k (x ∷ a.now_done)) (λ t. elim (has-head k x a.now_done t) [
        | inl e ↦ clash (has x busy) (ap (λ (y : ℕ). has y busy) e ∙ h) new
        | inr e ↦ clash (has k a.now_done) e (a.stage.apart k (has-later k x busy h))
      ]);
    };
    grown = λ k h. let g = a.grown k h in omega (arith, g);
  }
    where
      puts-have : (b : Bool) → is_shared ns root x ≡ b → (k : ℕ) → is_shared ns root k ≡ true → has k (x ∷ a.now_done) ≡ true → is_some (put_number k (puts_after b x puts)) ≡ true
      puts-have true e k s h = elim (cases_bool (eqb x k)) [
        | inl t ↦ rw t refl
        | inr t ↦ elim (has-head k x a.now_done h) [ inl u ↦ clash (eqb x k) (eq-eqb x k u) t | inr u ↦ let p = a.stage.put k s u in rw t p ]
      ]
      puts-have false e k s h = elim (has-head k x a.now_done h) [
        | inl u ↦ clash (is_shared ns root k) s (ap (is_shared ns root) (sym u) ∙ e)
        | inr u ↦ a.stage.put k s u
      ]

  -- a way leads from each node that was begun to this one
  abbrev Ways : List ℕ → ℕ → Type 0
  Ways busy x = (b : ℕ) → has b busy ≡ true → (j : ℕ) × (has_way (suc j) ns b x ≡ true)

  ways-item : (busy : List ℕ) (x c : ℕ) → Ways busy x → has c (items_at ns x) ≡ true → Ways (x ∷ busy) c
  unfolding has_way
  ways-item busy x c ways h b i = elim (has-head b x busy i) [
    | inl e ↦ (0, way-step 0 ns b x c (eq-eqb b x (sym e)) h)
    | inr e ↦ let w = ways b e in (suc w.0, way-step (suc w.0) ns b x c w.1 h)
  ]

  none-put : (k : ℕ) (found : Option ℕ) → found ≡ None → is_some found ≡ true → ⊥
  none-put k found e h = absurd cc

  held-after : (go : ℕ → List ℕ → Piece) (vis : ℕ → List ℕ → List ℕ) (x j : ℕ) (node : Node) (done busy puts : List ℕ) (met later : ℕ → ℕ) (found : Option ℕ) → put_number x puts ≡ found → slice_get ns x ≡ Some node →
      ((n : ℕ) → has_way (suc n) ns x x ≡ true → ⊥) → has_way j ns root x ≡ true → Ways busy x → ((c : ℕ) → has c (items_in (parts_of node)) ≡ true → Step go vis (x ∷ busy) c) → Stage done busy puts met later (x ∷ []) →
      After done busy (held_piece (is_shared ns root x) found x puts (parts_piece go (parts_of node) puts)).puts later (visit_held found x (visit_parts vis go (parts_of node) puts))
  held-after go vis x j node done busy puts met later (Some n) e here round way ways each st = passed done busy puts [] met later x st (λ k h. refl)
  held-after go vis x j node done busy puts met later None e here round way ways each st =
      let one = times-one x x refl in
      let fresh : has x done ≡ false = not_true (has x done) (λ t.
      let a = st.met_done x t in
      let b = st.budget x in
      let s : is_shared ns root x ≡ true = lt-ltb 1 (most x) (omega (arith, a, b, one)) in
      none-put x (put_number x puts) e (st.put x s t)) in
      let idle : has x busy ≡ false = not_true (has x busy) (λ t. let w = ways x t in round w.0 w.1) in
      let r : reached x ≡ true = reached-way ns root x j short way in
      let items : items_at ns x ≡ items_in (parts_of node) = ap Rattle.pickle_graph.specs.Parts.items_of here in
      let a = parts-after go vis (x ∷ busy) (parts_of node) done puts (λ k. met k + times k (x ∷ [])) later each (record {
        budget = λ k. let b = st.budget k in let l = left-begun done busy x k fresh idle r in let i = ap (times k) items in omega (arith, b, l, i);
        met_done = λ k h. let b = st.met_done k h in omega (arith, b);
        met_busy = λ k h. elim (has-head k x busy h) [ inl u ↦ let b = times-one k x u in omega (arith, b) | inr u ↦ let b = st.met_busy k u in omega (arith, b) ];
        put = st.put;
        single = st.single;
        apart = λ k h. elim (has-head k x busy h) [ inl u ↦ ap (λ (y : ℕ). has y done) (sym u) ∙ fresh | inr u ↦ st.apart k u ];
      }) in
      finish (is_shared ns root x) refl (whole-after done busy (parts_piece go (parts_of node) puts).puts (visit_parts vis go (parts_of node) puts) later x (is_shared ns root x) refl idle a)
    where
      finish : (b : Bool) → is_shared ns root x ≡ b → After done busy (puts_after b x (parts_piece go (parts_of node) puts).puts) later (x ∷ visit_parts vis go (parts_of node) puts) →
          After done busy (held_piece b None x puts (parts_piece go (parts_of node) puts)).puts later (x ∷ visit_parts vis go (parts_of node) puts)
      finish true e a = a
      finish false e a = a

  node-after : (go : ℕ → List ℕ → Piece) (vis : ℕ → List ℕ → List ℕ) (x j : ℕ) (found : Option Node) (done busy puts : List ℕ) (met later : ℕ → ℕ) → slice_get ns x ≡ found →
      ((n : ℕ) → has_way (suc n) ns x x ≡ true → ⊥) → has_way j ns root x ≡ true → Ways busy x → ((c : ℕ) → has c (items_at ns x) ≡ true → Step go vis (x ∷ busy) c) → Stage done busy puts met later (x ∷ []) →
      After done busy (node_piece (is_shared ns root) go x puts found).puts later (visit_node vis go x puts found)
  node-after go vis x j None done busy puts met later here round way ways each st = passed done busy puts [] met later x st (λ k h. refl)
  node-after go vis x j (Some node) done busy puts met later here round way ways each st = elim (cases_bool (is_held node)) [
    | inl h ↦
        rw h (held-after go vis x j node done busy puts met later (put_number x puts) refl here round way ways (λ c i. each c (ap (λ (f : Option Node). has c (Rattle.pickle_graph.specs.Parts.items_of f)) here ∙ i)) st)
    | inr h ↦
        let leaf : is_held_at ns x ≡ false = ap holds_items here ∙ h in
        rw h (passed done busy puts (x ∷ []) met later x st (λ k held. times-other k x (λ e. clash (is_held_at ns k) held (ap (is_held_at ns) (sym e) ∙ leaf))))
  ]

  piece-after : (levels x j : ℕ) (done busy puts : List ℕ) (met later : ℕ → ℕ) → has_walk levels ns x ≡ false → has_way j ns root x ≡ true → Ways busy x → Stage done busy puts met later (x ∷ []) →
      After done busy (piece_of levels ns (is_shared ns root) x puts).puts later (visits levels ns (is_shared ns root) x puts)
  unfolding has_walk piece_of visits
  piece-after zero x j done busy puts met later end way ways st = absurd cc
  piece-after (suc levels) x j done busy puts met later end way ways st =
      node-after (piece_of levels ns (is_shared ns root)) (visits levels ns (is_shared ns root)) x j (slice_get ns x) done busy puts met later refl
      (λ n w. clash (has_walk (suc levels) ns x) (round-walk n (suc levels) ns x w) end) way ways
      (λ c h done' puts' met' later' st'. piece-after levels c (suc j) done' (x ∷ busy) puts' met' later' (not_true (has_walk levels ns c) (λ t. clash (has_walk (suc levels) ns x) (walk-item levels ns x c h t) end)) (way-step j ns root x c way h) (ways-item busy x c ways h) st')
      st

  -- Each node with items stands once among those whose texts a pickle has.
  pub visits-once : (k : ℕ) → is_held_at ns k ≡ true → times k (visits (suc WALK_LIMIT) ns (is_shared ns root) root []) ≤ 1
  unfolding has_way
  visits-once k held =
      let a = piece-after (suc WALK_LIMIT) root 0 [] [] [] (λ i. 0) (λ i. 0) short (eq-eqb root root refl) (λ b h. absurd cc) (record {
        budget = λ i. omega arith;
        met_done = λ i h. absurd cc;
        met_busy = λ i h. absurd cc;
        put = λ i s h. absurd cc;
        single = λ i. omega arith;
        apart = λ i h. absurd cc;
      }) in
      let g = a.grown k held in
      let s = a.stage.single k in
      omega (arith, g, s)

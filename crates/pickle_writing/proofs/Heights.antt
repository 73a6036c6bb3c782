-- Heights of nodes.
use Rattle.std.proofs.Common.{◌≡◌, ℕ, zero, suc, ◌+◌, ◌-◌, ◌<◌, ◌≤◌, Bool, true, false, cond, List, [], ◌∷◌, ◌++◌, length, take, get_or, Some, None, refl, arith, sym, ◌∙◌, ap, subst, eqb, ◌⊎◌, inl, inr}
use Rattle.std.specs.Prelude.{is_some}
use Rattle.std.proofs.lemmas.Bool.{eqb-true, eq-eqb}
use Rattle.std.proofs.lemmas.List.{append-nil}
use Rattle.pickle_graph.specs.declared.node.Node.{Node}
use Rattle.pickle_writing.specs.declared.depth.TheConstants.{WALK_LIMIT}
use Rattle.pickle_graph.specs.declared.parts.Part.{Part}
use Rattle.pickle_graph.specs.declared.parts.Part.TheVariants.{Byte, Item}
use Rattle.std.specs.Prelude.{slice_get}
use Rattle.pickle_graph.specs.Parts.{items_at, items_in, held_in}
use Rattle.pickle_graph.specs.Walks.{some_item, has_walk, has_way, leads}
use Rattle.pickle_graph.specs.Same.{has}
use Rattle.pickle_writing.specs.Numbers.{number_of, has_number, is_end, is_done, IsHeight, IsMeasured, IsOpen, AllOpen, IsMeasuredSince, Measures, walks_in, leads_in, IsTop, MeasuresAll, IsReach}
use Rattle.pickle_writing.proofs.Partless.{no_parts}
use Rattle.pickle_graph.specs.WalkLaws.{clash, cases_bool, not_true, same_bool, has-head, has-here, has-later, has-append, has-left, has-right, some-has, some-find, walk-less, way-step, round-walk, leads-self}
use Rattle.pickle_writing.proofs.Walks.{walk-in, back-walk, leads-on}

some_is : (a b : ℕ) → Some a ≡ Some b → a ≡ b
some_is a b e = cc

-- ---- items

walks-less : (n k : ℕ) (ns : List Node) (items : List ℕ) → k ≤ n → walks_in n ns items ≡ true → walks_in k ns items ≡ true
walks-less n zero ns items h w = refl
walks-less zero (suc k) ns items h w = absurd (omega arith)
walks-less (suc n) (suc k) ns items h w =
    let f = some-find (has_walk n ns) items w in
    some-has (has_walk k ns) f.0 items f.1 (walk-less n k ns f.0 (omega arith) f.2)

walks-left : (n : ℕ) (ns : List Node) (items more : List ℕ) → walks_in n ns items ≡ true → walks_in n ns (items ++ more) ≡ true
walks-left zero ns items more w = refl
walks-left (suc n) ns items more w =
    let f = some-find (has_walk n ns) items w in
    some-has (has_walk n ns) f.0 (items ++ more) (has-left f.0 items more f.1) f.2

-- no walk is so long from the items, nor from one more
walks-none : (n : ℕ) (ns : List Node) (items : List ℕ) (c : ℕ) → walks_in (suc n) ns items ≡ false → has_walk n ns c ≡ false → walks_in (suc n) ns (items ++ c ∷ []) ≡ false
walks-none n ns items c h k = not_true _ (λ w.
    let f = some-find (has_walk n ns) (items ++ c ∷ []) w in
    elim (has-append f.0 items (c ∷ []) f.1) [
      | inl l ↦ clash _ (some-has (has_walk n ns) f.0 items l f.2) h
      | inr r ↦ elim (has-head f.0 c [] r) [
        | inl e ↦ clash (has_walk n ns c) (ap (has_walk n ns) e ∙ f.2) k
        | inr e ↦ absurd cc
      ]
    ])

walks-short : (n k : ℕ) (ns : List Node) (items : List ℕ) → k ≤ n → walks_in k ns items ≡ false → walks_in n ns items ≡ false
walks-short n k ns items h w = not_true _ (λ t. clash _ (walks-less n k ns items h t) w)

walk-short : (n k : ℕ) (ns : List Node) (m : ℕ) → k ≤ n → has_walk k ns m ≡ false → has_walk n ns m ≡ false
walk-short n k ns m h w = not_true _ (λ t. clash _ (walk-less n k ns m h t) w)

top_higher : (ns : List Node) (items : List ℕ) (c h hc : ℕ) → IsTop ns items h → IsHeight ns c hc → h ≤ hc → IsTop ns (items ++ c ∷ []) (hc + 1)
top_higher ns items c h hc t k le =
    let e : suc hc ≡ hc + 1 = omega arith in
    subst (λ (x : ℕ). IsTop ns (items ++ c ∷ []) x) e (record {
      walk = some-has (has_walk hc ns) c (items ++ c ∷ []) (has-right c items (c ∷ []) (has-here c c [] refl)) k.walk;
      last = walks-none (suc hc) ns items c (walks-short (suc (suc hc)) (suc h) ns items (omega arith) t.last) k.last;
    })

top_same : (ns : List Node) (items : List ℕ) (c h hc : ℕ) → IsTop ns items h → IsHeight ns c hc → hc < h → IsTop ns (items ++ c ∷ []) h
top_same ns items c h hc t k less = record {
  walk = walks-left h ns items (c ∷ []) t.walk;
  last = walks-none h ns items c t.last (walk-short h (suc hc) ns c (omega arith) k.last);
}

leads-left : (n : ℕ) (ns : List Node) (items more : List ℕ) (k : ℕ) → leads_in n ns items k ≡ true → leads_in n ns (items ++ more) k ≡ true
leads-left zero ns items more k h = absurd cc
leads-left (suc n) ns items more k h =
    let f = some-find (λ m. leads n ns m k) items h in
    some-has (λ m. leads n ns m k) f.0 (items ++ more) (has-left f.0 items more f.1) f.2

leads-last : (n : ℕ) (ns : List Node) (items : List ℕ) (c k : ℕ) → 0 < n → leads (n - 1) ns c k ≡ true → leads_in n ns (items ++ c ∷ []) k ≡ true
leads-last zero ns items c k some h = absurd (omega arith)
leads-last (suc n) ns items c k some h =
    let e : suc n - 1 ≡ n = omega arith in
    some-has (λ m. leads n ns m k) c (items ++ c ∷ []) (has-right c items (c ∷ []) (has-here c c [] refl)) (subst (λ (x : ℕ). leads x ns c k ≡ true) e h)

-- ---- what is done

true-either : (b : Bool) → cond b true true ≡ true
true-either true = refl
true-either false = refl

done-has : (ns : List Node) (hs : List (ℕ × ℕ)) (k : ℕ) → has_number hs k ≡ true → is_done ns hs k ≡ true
done-has ns hs k e = ap (λ (b : Bool). cond b true (is_end (items_at ns k))) e

done-end : (ns : List Node) (hs : List (ℕ × ℕ)) (k : ℕ) → is_end (items_at ns k) ≡ true → is_done ns hs k ≡ true
done-end ns hs k e = ap (λ (b : Bool). cond (has_number hs k) true b) e ∙ true-either (has_number hs k)

-- without a height no edge starts there
end-of : (ns : List Node) (hs : List (ℕ × ℕ)) (k : ℕ) → has_number hs k ≡ false → is_done ns hs k ≡ true → is_end (items_at ns k) ≡ true
end-of ns hs k none e = sym (ap (λ (b : Bool). cond b true (is_end (items_at ns k))) none) ∙ e

done-kept : (ns : List Node) (old new : List (ℕ × ℕ)) (k : ℕ) → (has_number old k ≡ true → has_number new k ≡ true) → is_done ns old k ≡ true → is_done ns new k ≡ true
done-kept ns old new k kept e = elim (cases_bool (has_number old k)) [
  | inl t ↦ done-has ns new k (kept t)
  | inr t ↦ done-end ns new k (end-of ns old k t e)
]

end-none : (items : List ℕ) (c : ℕ) → is_end items ≡ true → has c items ≡ true → ⊥
end-none [] c e i = absurd cc
end-none (x ∷ items) c e i = absurd cc

done-item : (ns : List Node) (hs : List (ℕ × ℕ)) (a c : ℕ) → IsMeasured ns hs → is_done ns hs a ≡ true → has c (items_at ns a) ≡ true → is_done ns hs c ≡ true
done-item ns hs a c h e i = elim (cases_bool (has_number hs a)) [
  | inl t ↦ h.closed a c t i
  | inr t ↦ absurd (end-none (items_at ns a) c (end-of ns hs a t e) i)
]

has-of : (ns : List Node) (hs : List (ℕ × ℕ)) (k : ℕ) → is_end (items_at ns k) ≡ false → is_done ns hs k ≡ true → has_number hs k ≡ true
has-of ns hs k some e = elim (cases_bool (has_number hs k)) [
  | inl t ↦ t
  | inr t ↦ clash (is_end (items_at ns k)) (end-of ns hs k t e) some
]

-- nothing is measured
pub measured_none : (ns : List Node) → IsMeasured ns []
measured_none ns = record { right = λ m h e. absurd cc; closed = λ m c e h. absurd cc; fresh = tt }

pub all_none : (ns : List Node) (levels : ℕ) (old : List (ℕ × ℕ)) → IsMeasured ns old → MeasuresAll ns levels old [] old 0
all_none ns levels old h = record {
  measured = h;
  height = record { walk = refl; last = refl };
  low = omega arith;
  kept = λ k e. e;
  each = λ c e. absurd cc;
  led = λ k e. inl e;
}

-- one more item
all-more : (ns : List Node) (levels : ℕ) (old mid new : List (ℕ × ℕ)) (items : List ℕ) (c h hc top : ℕ) → 0 < levels → MeasuresAll ns levels old items mid h → Measures ns (levels - 1) mid c new hc →
    IsTop ns (items ++ c ∷ []) top → top ≤ levels → MeasuresAll ns levels old (items ++ c ∷ []) new top
all-more ns levels old mid new items c h hc top some a b t low = record {
  measured = b.measured;
  height = t;
  low = low;
  kept = λ k e. b.kept k (a.kept k e);
  each = λ k e. elim (has-append k items (c ∷ []) e) [
    | inl l ↦ done-kept ns mid new k (b.kept k) (a.each k l)
    | inr r ↦ elim (has-head k c [] r) [ inl x ↦ ap (is_done ns new) (sym x) ∙ b.here | inr x ↦ absurd cc ]
  ];
  led = λ k e. elim (b.led k e) [
    | inl l ↦ elim (a.led k l) [ inl x ↦ inl x | inr x ↦ inr (leads-left levels ns items (c ∷ []) k x) ]
    | inr r ↦ inr (leads-last levels ns items c k some r)
  ];
}

pub all_higher : (ns : List Node) (levels : ℕ) (old mid new : List (ℕ × ℕ)) (items : List ℕ) (c h hc : ℕ) → 0 < levels → MeasuresAll ns levels old items mid h → Measures ns (levels - 1) mid c new hc → h ≤ hc →
    MeasuresAll ns levels old (items ++ c ∷ []) new (hc + 1)
all_higher ns levels old mid new items c h hc some a b le = all-more ns levels old mid new items c h hc (hc + 1) some a b (top_higher ns items c h hc a.height b.height le) (omega (arith, b.low))

pub all_same : (ns : List Node) (levels : ℕ) (old mid new : List (ℕ × ℕ)) (items : List ℕ) (c h hc : ℕ) → 0 < levels → MeasuresAll ns levels old items mid h → Measures ns (levels - 1) mid c new hc → hc < h →
    MeasuresAll ns levels old (items ++ c ∷ []) new h
all_same ns levels old mid new items c h hc some a b less = all-more ns levels old mid new items c h hc h some a b (top_same ns items c h hc a.height b.height less) a.low

-- ---- a node

height-top : (ns : List Node) (m h : ℕ) → IsTop ns (items_at ns m) h → IsHeight ns m h
height-top ns m h t = record { walk = walk-in h ns m ∙ t.walk; last = walk-in (suc h) ns m ∙ t.last }

known-head : (k m h : ℕ) (hs : List (ℕ × ℕ)) → has_number ((m, h) ∷ hs) k ≡ true → (m ≡ k) ⊎ (has_number hs k ≡ true)
known-head k m h hs e = elim (cases_bool (eqb m k)) [
  | inl t ↦ inl (eqb-true m k t)
  | inr t ↦ inr (ap (λ (b : Bool). is_some (cond b (Some h) (number_of k hs))) (sym t) ∙ e)
]

known-here : (k m h : ℕ) (hs : List (ℕ × ℕ)) → m ≡ k → has_number ((m, h) ∷ hs) k ≡ true
known-here k m h hs e = let t = eq-eqb m k e in rw t refl

known-later : (k m h : ℕ) (hs : List (ℕ × ℕ)) → has_number hs k ≡ true → has_number ((m, h) ∷ hs) k ≡ true
known-later k m h hs e = elim (cases_bool (eqb m k)) [ inl t ↦ rw t refl | inr t ↦ rw t e ]

right-head : (ns : List Node) (m h : ℕ) (hs : List (ℕ × ℕ)) → IsHeight ns m h → ((k g : ℕ) → number_of k hs ≡ Some g → IsHeight ns k g) → (k g : ℕ) → number_of k ((m, h) ∷ hs) ≡ Some g → IsHeight ns k g
right-head ns m h hs here rest k g e = elim (cases_bool (eqb m k)) [
  | inl t ↦
      let same : h ≡ g = some_is h g (ap (λ (b : Bool). cond b (Some h) (number_of k hs)) (sym t) ∙ e) in
      subst (λ (x : ℕ). IsHeight ns k x) same (subst (λ (x : ℕ). IsHeight ns x h) (eqb-true m k t) here)
  | inr t ↦ rest k g (ap (λ (b : Bool). cond b (Some h) (number_of k hs)) (sym t) ∙ e)
]

unknown : (m : ℕ) (hs : List (ℕ × ℕ)) → number_of m hs ≡ None → has_number hs m ≡ false
unknown m hs e = ap is_some e

-- the items of a node were measured: so is the node
pub node_measured : (ns : List Node) (levels : ℕ) (old mid : List (ℕ × ℕ)) (m h : ℕ) → number_of m old ≡ None → MeasuresAll ns levels old (items_at ns m) mid h → Measures ns levels old m ((m, h) ∷ mid) h
node_measured ns levels old mid m h none a =
    let here : IsHeight ns m h = height-top ns m h a.height in
    let new : has_number mid m ≡ false = not_true _ (λ t. elim (a.led m t) [
      | inl l ↦ clash _ l (unknown m old none)
      | inr r ↦ clash _ (back-walk levels (suc h) ns m r) here.last
    ]) in
    record {
      measured = record {
        right = right-head ns m h mid here a.measured.right;
        closed = λ x c e i. elim (known-head x m h mid e) [
          | inl t ↦ done-kept ns mid ((m, h) ∷ mid) c (known-later c m h mid) (a.each c (ap (λ (y : ℕ). has c (items_at ns y)) t ∙ i))
          | inr t ↦ done-kept ns mid ((m, h) ∷ mid) c (known-later c m h mid) (a.measured.closed x c t i)
        ];
        fresh = (new, a.measured.fresh);
      };
      height = here;
      low = a.low;
      kept = λ k e. known-later k m h mid (a.kept k e);
      here = done-has ns ((m, h) ∷ mid) m (known-here m m h mid refl);
      led = λ k e. elim (known-head k m h mid e) [
        | inl t ↦ inr (ap (leads levels ns m) (sym t) ∙ leads-self levels ns m)
        | inr t ↦ elim (a.led k t) [ inl l ↦ inl l | inr r ↦ inr (leads-on levels ns m k r) ]
      ];
    }

-- a node that is known
pub recalled : (ns : List Node) (levels : ℕ) (hs : List (ℕ × ℕ)) (m h : ℕ) → IsMeasured ns hs → number_of m hs ≡ Some h → h ≤ levels → Measures ns levels hs m hs h
recalled ns levels hs m h a e le = record {
  measured = a;
  height = a.right m h e;
  low = le;
  kept = λ k t. t;
  here = done-has ns hs m (ap is_some e);
  led = λ k t. inl t;
}

pub recalled_deep : (ns : List Node) (levels : ℕ) (hs : List (ℕ × ℕ)) (m h : ℕ) → IsMeasured ns hs → number_of m hs ≡ Some h → levels < h → has_walk (levels + 1) ns m ≡ true
recalled_deep ns levels hs m h a e less = walk-less h (levels + 1) ns m (omega arith) (a.right m h e).walk

pub deep_node : (ns : List Node) (levels m : ℕ) → walks_in (levels + 1) ns (items_at ns m) ≡ true → has_walk (levels + 1) ns m ≡ true
deep_node ns levels m h = walk-in (levels + 1) ns m ∙ h

pub deep_item : (ns : List Node) (levels : ℕ) (items : List ℕ) (c : ℕ) → has c items ≡ true → 0 < levels → has_walk (levels - 1 + 1) ns c ≡ true → walks_in (levels + 1) ns items ≡ true
deep_item ns levels items c h some w =
    let e : levels - 1 + 1 ≡ levels = omega arith in
    let f : suc levels ≡ levels + 1 = omega arith in
    subst (λ (k : ℕ). walks_in k ns items ≡ true) f (some-has (has_walk levels ns) c items h (subst (λ (k : ℕ). has_walk k ns c ≡ true) e w))

-- ---- all that the root reaches

done-leads : (ns : List Node) (hs : List (ℕ × ℕ)) → IsMeasured ns hs → (n a b : ℕ) → is_done ns hs a ≡ true → leads n ns a b ≡ true → is_done ns hs b ≡ true
unfolding leads
done-leads ns hs h zero a b k e = ap (is_done ns hs) (sym (eqb-true a b e)) ∙ k
done-leads ns hs h (suc n) a b k e = elim (cases_bool (eqb a b)) [
  | inl t ↦ ap (is_done ns hs) (sym (eqb-true a b t)) ∙ k
  | inr t ↦
      let rest : some_item (λ m. leads n ns m b) (items_at ns a) ≡ true = ap (λ (x : Bool). cond x true (some_item (λ m. leads n ns m b) (items_at ns a))) (sym t) ∙ e in
      let f = some-find (λ m. leads n ns m b) (items_at ns a) rest in
      done-leads ns hs h n f.0 b (done-item ns hs a f.0 h k f.1) f.2
]

pub all_reached : (ns : List Node) (old hs : List (ℕ × ℕ)) (root h : ℕ) → old ≡ [] → Measures ns WALK_LIMIT old root hs h → IsReach ns root hs
all_reached ns old hs root h none b = let a : Measures ns WALK_LIMIT [] root hs h = subst (λ (o : List (ℕ × ℕ)). Measures ns WALK_LIMIT o root hs h) none b in record {
  known = λ k some. same_bool _ _ (λ t. elim (a.led k t) [ inl l ↦ absurd cc | inr r ↦ r ]) (λ t. has-of ns hs k some (done-leads ns hs a.measured WALK_LIMIT root k a.here t));
  fresh = a.measured.fresh;
  short = not_true _ (λ t. clash _ (walk-less (suc WALK_LIMIT) (suc h) ns root (omega (arith, a.low)) t) a.height.last);
}

-- ---- items among parts

pub items_more : (parts : List Part) (i : ℕ) (d : Part) → i < length parts → items_in (take (i + 1) parts) ≡ items_in (take i parts) ++ items_in (get_or parts i d ∷ [])
items_more [] i d h = absurd (omega arith)
items_more (Byte byte ∷ parts) zero d h = refl
items_more (Item item ∷ parts) zero d h = refl
items_more (Byte byte ∷ parts) (suc i) d h =
    let one : suc i + 1 ≡ suc (i + 1) = omega arith in
    rw one (items_more parts i d (omega arith))
items_more (Item item ∷ parts) (suc i) d h =
    let one : suc i + 1 ≡ suc (i + 1) = omega arith in
    rw one (ap (λ (l : List ℕ). item ∷ l) (items_more parts i d (omega arith)))

pub item_has : (parts : List Part) (i : ℕ) (d : Part) (c : ℕ) → i < length parts → get_or parts i d ≡ Item c → has c (items_in parts) ≡ true
item_has [] i d c h e = absurd (omega arith)
item_has (part ∷ parts) zero d c h e = subst (λ (p : Part). has c (items_in (p ∷ parts)) ≡ true) (sym e) (has-here c c (items_in parts) refl)
item_has (Byte byte ∷ parts) (suc i) d c h e = item_has parts i d c (omega arith) e
item_has (Item item ∷ parts) (suc i) d c h e = has-later c item (items_in parts) (item_has parts i d c (omega arith) e)

-- ---- too deep, by an item among parts

pub deep_at : (ns : List Node) (levels : ℕ) (parts : List Part) (i : ℕ) (d : Part) (c : ℕ) → i < length parts → get_or parts i d ≡ Item c → 0 < levels → has_walk (levels - 1 + 1) ns c ≡ true → walks_in (levels + 1) ns (items_in parts) ≡ true
deep_at ns levels parts i d c h e some w = deep_item ns levels (items_in parts) c (item_has parts i d c h e) some w

pub deep_zero : (ns : List Node) (levels : ℕ) (parts : List Part) (i : ℕ) (d : Part) (c : ℕ) → i < length parts → get_or parts i d ≡ Item c → levels ≡ 0 → walks_in (levels + 1) ns (items_in parts) ≡ true
unfolding has_walk
deep_zero ns levels parts i d c h e none =
    let one : suc 0 ≡ levels + 1 = omega arith in
    subst (λ (k : ℕ). walks_in k ns (items_in parts) ≡ true) one (some-has (has_walk 0 ns) c (items_in parts) (item_has parts i d c h e) refl)

-- ---- a part more

pub byte_measured : (ns : List Node) (levels : ℕ) (old mid : List (ℕ × ℕ)) (parts : List Part) (i : ℕ) (d : Part) (byte h : ℕ) → i < length parts → get_or parts i d ≡ Byte byte → MeasuresAll ns levels old (items_in (take i parts)) mid h →
    MeasuresAll ns levels old (items_in (take (i + 1) parts)) mid h
byte_measured ns levels old mid parts i d byte h less e a =
    let more : items_in (take (i + 1) parts) ≡ items_in (take i parts) = items_more parts i d less ∙ ap (λ (p : Part). items_in (take i parts) ++ items_in (p ∷ [])) e ∙ append-nil (items_in (take i parts)) in
    subst (λ (l : List ℕ). MeasuresAll ns levels old l mid h) (sym more) a

pub item_measured : (ns : List Node) (levels : ℕ) (old new : List (ℕ × ℕ)) (parts : List Part) (i : ℕ) (d : Part) (c h : ℕ) → i < length parts → get_or parts i d ≡ Item c →
    MeasuresAll ns levels old (items_in (take i parts) ++ c ∷ []) new h → MeasuresAll ns levels old (items_in (take (i + 1) parts)) new h
item_measured ns levels old new parts i d c h less e a =
    let more : items_in (take (i + 1) parts) ≡ items_in (take i parts) ++ c ∷ [] = items_more parts i d less ∙ ap (λ (p : Part). items_in (take i parts) ++ items_in (p ∷ [])) e in
    subst (λ (l : List ℕ). MeasuresAll ns levels old l new h) (sym more) a

pub node_built : (ns : List Node) (levels : ℕ) (old mid new : List (ℕ × ℕ)) (m h : ℕ) (items : List ℕ) → number_of m old ≡ None → items ≡ items_at ns m → new ≡ (m, h) ∷ mid → MeasuresAll ns levels old items mid h → Measures ns levels old m new h
node_built ns levels old mid new m h items none is more a =
    subst (λ (x : List (ℕ × ℕ)). Measures ns levels old m x h) (sym more) (node_measured ns levels old mid m h none (subst (λ (l : List ℕ). MeasuresAll ns levels old l mid h) is a))

-- a node that doesn't stand once
pub leaf_measured : (ns : List Node) (levels : ℕ) (hs : List (ℕ × ℕ)) (m : ℕ) → IsMeasured ns hs → held_in (slice_get ns m) ≡ false → Measures ns levels hs m hs 0
leaf_measured ns levels hs m a leaf =
    let none : items_at ns m ≡ [] = ap items_in (no_parts (slice_get ns m) leaf) in
    record {
      measured = a;
      height = height-top ns m 0 (subst (λ (l : List ℕ). IsTop ns l 0) (sym none) (all_none ns levels hs a).height);
      low = omega arith;
      kept = λ k e. e;
      here = done-end ns hs m (ap is_end none);
      led = λ k e. inl e;
    }

-- ---- nodes that were begun

pub settled_none : (begun heights : List (ℕ × ℕ)) → IsMeasuredSince begun begun heights
settled_none begun heights b h = inl h

pub settled_more : (begun mid later old new : List (ℕ × ℕ)) → IsMeasuredSince begun mid old → IsMeasuredSince mid later new → ((k : ℕ) → has_number old k ≡ true → has_number new k ≡ true) → IsMeasuredSince begun later new
settled_more begun mid later old new a b kept k h = elim (b k h) [
  | inl l ↦ elim (a k l) [ inl x ↦ inl x | inr x ↦ inr (kept k x) ]
  | inr r ↦ inr r
]

pub settled_node : (begun later heights : List (ℕ × ℕ)) (m n h : ℕ) → IsMeasuredSince ((m, n) ∷ begun) later heights → IsMeasuredSince begun later ((m, h) ∷ heights)
settled_node begun later heights m n h a k e = elim (a k e) [
  | inl l ↦ elim (known-head k m n begun l) [ inl x ↦ inr (known-here k m h heights x) | inr x ↦ inl x ]
  | inr r ↦ inr (known-later k m h heights r)
]

-- what was open stays so, as more is begun and measured
pub open_later : (ns : List Node) (begun later old new : List (ℕ × ℕ)) (m : ℕ) → IsOpen ns begun old m → IsMeasuredSince begun later new → ((k : ℕ) → has_number old k ≡ true → has_number new k ≡ true) → IsOpen ns later new m
open_later ns begun later old new m a settled kept b h none = elim (settled b h) [
  | inl l ↦ a b l (not_true (has_number old b) (λ t. clash (has_number new b) (kept b t) none))
  | inr r ↦ clash (has_number new b) r none
]

pub open_items : (ns : List Node) (begun heights : List (ℕ × ℕ)) (m n : ℕ) → IsOpen ns begun heights m → AllOpen ns ((m, n) ∷ begun) heights (items_at ns m)
unfolding has_way
open_items ns begun heights m n a c i b h none = elim (known-head b m n begun h) [
  | inl e ↦ (0, way-step 0 ns b m c (eq-eqb b m (sym e)) i)
  | inr e ↦ let w = a b e none in (suc w.0, way-step (suc w.0) ns b m c w.1 i)
]

pub open_none : (ns : List Node) (begun heights : List (ℕ × ℕ)) (m : ℕ) → begun ≡ [] → IsOpen ns begun heights m
open_none ns begun heights m e = subst (λ (l : List (ℕ × ℕ)). IsOpen ns l heights m) (sym e) (λ b h none. absurd cc)

-- a node that was begun and isn't measured lies on a cycle
pub round_deep : (ns : List Node) (begun heights : List (ℕ × ℕ)) (m n levels : ℕ) → IsOpen ns begun heights m → number_of m begun ≡ Some n → number_of m heights ≡ None → has_walk (levels + 1) ns m ≡ true
round_deep ns begun heights m n levels a known none = let w = a m (ap is_some known) (unknown m heights none) in round-walk w.0 (levels + 1) ns m w.1

pub open_parts : (ns : List Node) (begun later heights : List (ℕ × ℕ)) (m n : ℕ) (items : List ℕ) → IsOpen ns begun heights m → later ≡ (m, n) ∷ begun → items ≡ items_at ns m → AllOpen ns later heights items
open_parts ns begun later heights m n items a is same =
    subst (λ (l : List ℕ). AllOpen ns later heights l) (sym same) (subst (λ (l : List (ℕ × ℕ)). AllOpen ns l heights (items_at ns m)) (sym is) (open_items ns begun heights m n a))

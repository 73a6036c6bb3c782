-- A set that may split, in a whole tree.
use Rattle.std.proofs.Common.{◌≡◌, ℕ, ◌≤◌, ◌<◌, ◌^◌, false, List, [], ◌∷◌, ◌++◌, Option, Some, None, refl, arith, sym, ◌∙◌, ap, subst, zero, suc, inl, inr}
use Rattle.std.specs.Prelude.{map, length}
use Rattle.btree_family.specs.declared.key.Key.{Key}
use Rattle.btree_family.specs.declared.bucket.Item.{Item}
use Rattle.btree_family.specs.Keys.{rank_of}
use Rattle.btree_family.specs.Buckets.{keys_of}
use Rattle.btree_family.specs.Rising.{Rises}
use Rattle.bucket_state.specs.declared.tree.Branch.{Branch}
use Rattle.bucket_state.specs.declared.tree.Inner.{Inner}
use Rattle.bucket_state.specs.Trees.{separators_of}
use Rattle.btree_shapes.specs.declared.node.Node.{Node}
use Rattle.btree_shapes.specs.declared.node.Node.TheVariants as node
use Rattle.btree_shapes.specs.Nodes.{Held, Holds}
use Rattle.btree_shapes.specs.Ways.{stands_in}
use Rattle.btree_shapes.specs.Shapes.{Shape, Limb, oid_of, branch_of, EachLimb, joined, AreWithin, AreOfKind, Parted, Bounded, mapping_of, nodes_in, links_of, Linked, first_leaf, IsSound, IsTree}
use Rattle.btree_putting.specs.declared.puts.Put.{Put}
use Rattle.btree_setting.specs.Types.{Bottom, Place, Sprout, Change, Terms, Plain, Rung}
use Rattle.btree_setting.specs.Types as place
use Rattle.btree_setting.specs.Inserting.{set_item}
use Rattle.btree_putting.specs.Puts.{put_oid, leaf_node, lone_node, inner_node}
use Rattle.btree_setting.specs.Changes.{IsSet, IsRootSet, IsLeafSet, RootSplits, seam_first}
use Rattle.btree_maps.proofs.SetItems.{within_set, rises_set, kind_set, rises_left, rises_right, within_left, within_right, kind_left, kind_right}
use Rattle.btree_shapes.specs.ChainLaws.{Avoids, Distinct}
use Rattle.btree_maps.proofs.Chains.{relink, linked_relink}
use Rattle.btree_maps.proofs.Limbs.{ForKey, sprouts_of, keys_up, limbs_parts, parted_at, parted_left, joined_append, Fine, OldShape, fine_inner}
use Rattle.btree_maps.proofs.Rungs.{RungsIn}
use Rattle.btree_maps.proofs.Growing.{Grown}
use Rattle.btree_maps.proofs.Putting.{AllPut, all_parts}
use Rattle.btree_maps.proofs.Onways.{OneMore, rise_olds, root_olds}
use Rattle.btree_maps.proofs.Backs.{AllHeld}
use Rattle.btree_maps.proofs.Raising.{in_parts, up_sprouts, none_some, grow, grow_children}

-- ---- how many objects are new

for_key_any : {S : Type 0} (P : S → Type 0) (key : Key) (c : S) (ls : List (Limb S)) → ForKey P key c ls → (t : S) × P t
for_key_any P key c [] e = (c, e)
for_key_any P key c (l ∷ ls) (inl e) = (c, e.1)
for_key_any P key c (l ∷ ls) (inr e) = for_key_any P key l.child ls e.1

rungs_length : (objects : ℕ → Held) (value : Option (List ℕ)) (terms : Terms) (bottom : Bottom) (h : ℕ) (s : Shape h) (rungs : List Rung) → RungsIn objects value terms bottom h s rungs → length rungs ≡ h
rungs_length objects value terms bottom zero s [] r = refl
rungs_length objects value terms bottom zero s (x ∷ xs) r = absurd r
rungs_length objects value terms bottom (suc h) s [] r = absurd r
rungs_length objects value terms bottom (suc h) s (x ∷ xs) r =
    let t = for_key_any (λ c. RungsIn objects value terms bottom h c xs) terms.key s.head s.tail r.4 in
    ap suc (rungs_length objects value terms bottom h t.0 xs t.1)

length_last : (xs : List Put) (x : Put) → length (xs ++ x ∷ []) ≡ suc (length xs)
length_last [] x = refl
length_last (y ∷ ys) x = ap suc (length_last ys x)

leaf_news : (p : Place) (max : ℕ) (plain : Plain) (bottom : Bottom) (b : Change) (up : Sprout) → IsLeafSet p max plain bottom b → b.up ≡ Some up → 1 ≤ length b.news
leaf_news place.Alone max plain bottom b up s e = let n : b.up ≡ None = ap (λ (x : Change). x.up) s in absurd (none_some b.up up n e)
leaf_news place.Below max plain bottom b up (inl s) e = let n : b.up ≡ None = ap (λ (x : Change). x.up) s.1 in absurd (none_some b.up up n e)
leaf_news place.Below max plain bottom b up (inr s) e = let n : length b.news ≡ 1 = ap (λ (x : Change). length x.news) s.1.is in omega (arith, n)
leaf_news place.Lone max plain bottom b up (inl s) e = let n : b.up ≡ None = ap (λ (x : Change). x.up) s.1 in absurd (none_some b.up up n e)
leaf_news place.Lone max plain bottom b up (inr s) e = let n : b.up ≡ None = ap (λ (x : Change). x.up) s.1.is in absurd (none_some b.up up n e)

-- a split that goes up makes a new object at each height
news_count : (terms : Terms) (bottom : Bottom) (rungs : List Rung) (b : Change) (up : Sprout) → IsSet terms bottom rungs b → b.up ≡ Some up → suc (length rungs) ≤ length b.news
news_count terms bottom [] b up s e = leaf_news bottom.place terms.leaf terms.plain bottom b up s e
news_count terms bottom (x ∷ xs) b up (c, s, inl r) e = let n : b.up ≡ None = ap (λ (z : Change). z.up) r.is ∙ r.none in absurd (none_some b.up up n e)
news_count terms bottom (x ∷ xs) b up (c, s, inr (inl r)) e = let n : b.up ≡ None = ap (λ (z : Change). z.up) r.is in absurd (none_some b.up up n e)
news_count terms bottom (x ∷ xs) b up (c, s, inr (inr r)) e =
    let below = news_count terms bottom xs c r.up s r.some in
    let n : length b.news ≡ suc (length c.news) = ap (λ (z : Change). length z.news) r.split.is ∙ length_last c.news _ in
    omega (arith, below, n)

-- ---- what stands in the place of an object of its class

leaf_held : (objects : ℕ → Held) (p : Place) (max : ℕ) (plain : Plain) (b : Bottom) (c : Change) → ((n : Node) × (objects b.oid ≡ Holds b.class n)) → IsLeafSet p max plain b c → AllHeld objects c.olds
leaf_held objects place.Alone max plain b c h s = subst (λ (x : Change). AllHeld objects x.olds) (sym s) (h, tt)
leaf_held objects place.Below max plain b c h (inl s) = subst (λ (x : Change). AllHeld objects x.olds) (sym s.1) (h, tt)
leaf_held objects place.Below max plain b c h (inr s) = subst (λ (x : Change). AllHeld objects x.olds) (sym s.1.is) (h, tt)
leaf_held objects place.Lone max plain b c h (inl s) = subst (λ (x : Change). AllHeld objects x.olds) (sym s.1) (h, tt)
leaf_held objects place.Lone max plain b c h (inr s) = subst (λ (x : Change). AllHeld objects x.olds) (sym s.1.is) (h, tt)

held_append : (objects : ℕ → Held) (ps qs : List Put) → AllHeld objects ps → AllHeld objects qs → AllHeld objects (ps ++ qs)
held_append objects [] qs a b = b
held_append objects (p ∷ ps) qs a b = (a.0, held_append objects ps qs a.1 b)

more_held : (objects : ℕ → Held) (x : Rung) (n : Node) (below olds : List Put) → objects x.oid ≡ Holds x.class n → OneMore below olds x → AllHeld objects below → AllHeld objects olds
more_held objects x n below olds h (inl e) a = subst (AllHeld objects) (sym e) a
more_held objects x n below olds h (inr (p, e, o, g)) a =
    let one : objects p.oid ≡ Holds p.class n = ap objects o ∙ h ∙ ap (λ z. Holds z n) (sym g) in
    subst (AllHeld objects) (sym e) (held_append objects below (p ∷ []) a ((n, one), tt))

olds_held : (objects : ℕ → Held) (value : Option (List ℕ)) (terms : Terms) (bottom : Bottom) (h : ℕ) (s : Shape h) (rungs : List Rung) (c : Change) → RungsIn objects value terms bottom h s rungs → IsSet terms bottom rungs c → AllHeld objects c.olds
olds_held objects value terms bottom zero s [] c r i = leaf_held objects bottom.place terms.leaf terms.plain bottom c r.4 i
olds_held objects value terms bottom zero s (x ∷ xs) c r i = absurd r
olds_held objects value terms bottom (suc h) s [] c r i = absurd r
olds_held objects value terms bottom (suc h) s (x ∷ xs) c r (b, sb, rise) =
    let t = for_key_any (λ c. RungsIn objects value terms bottom h c xs) terms.key s.head s.tail r.4 in
    more_held objects x (node.Inner x.inner) b.olds c.olds r.2 (rise_olds terms x b c rise) (olds_held objects value terms bottom h t.0 xs b t.1 sb)

pub root_held : (objects : ℕ → Held) (value : Option (List ℕ)) (terms : Terms) (bottom : Bottom) (h : ℕ) (s : Shape (suc h)) (x : Rung) (xs : List Rung) (c : Change) → RungsIn objects value terms bottom (suc h) s (x ∷ xs) → IsRootSet terms bottom (x ∷ xs) c → AllHeld objects c.olds
root_held objects value terms bottom h s x xs c r (b, sb, rise) =
    let t = for_key_any (λ c. RungsIn objects value terms bottom h c xs) terms.key s.head s.tail r.4 in
    more_held objects x (node.Inner x.inner) b.olds c.olds r.2 (root_olds terms x b c rise) (olds_held objects value terms bottom h t.0 xs b t.1 sb)

pub bottom_held : (objects : ℕ → Held) (terms : Terms) (bottom : Bottom) (c : Change) (n : Node) → objects bottom.oid ≡ Holds bottom.class n → IsRootSet terms bottom [] c → AllHeld objects c.olds
bottom_held objects terms bottom c n h i = leaf_held objects bottom.place terms.leaf terms.plain bottom c (n, h) i

-- ---- trees of one leaf

-- a bucket that stands alone
pub alone_set : (objects' : ℕ → Held) (kind root : ℕ) (items : List Item) (next : Option ℕ) (key : Key) (value : Option (List ℕ)) → Bounded 0 None None (record { oid = root; items = items; next = next }) → AreOfKind kind items → rank_of key ≡ kind → next ≡ None → nodes_in objects' root ≡ Some (leaf_node (set_item items key value) next) → IsTree objects' root kind (set_item items key value)
alone_set objects' kind root items next key value b k r n e =
    let s : Shape 0 = record { oid = root; items = set_item items key value; next = next } in
    let sound : IsSound (nodes_in objects') root kind 0 s = record {
      root_is = refl;
      height = omega arith;
      stands = e;
      bounded = (rises_set None items key value refl b.0, within_set None None items key value tt tt b.1);
      of_kind = kind_set kind items key value r k;
      names = tt;
      linked = n;
    } in
    inr (0, s, sound, refl)

within_any : (items : List Item) → AreWithin None None items
within_any [] = tt
within_any (item ∷ items) = (tt, tt, within_any items)

-- a tree with one leaf of no number, which isn't split
pub lone_fits : (objects' : ℕ → Held) (kind root : ℕ) (items : List Item) (key : Key) (value : Option (List ℕ)) → Rises None (keys_of items) → AreOfKind kind items → rank_of key ≡ kind → nodes_in objects' root ≡ Some (lone_node (set_item items key value) None) → IsTree objects' root kind (set_item items key value)
lone_fits objects' kind root items key value r k rank e = inl (record { stands = e; rises = rises_set None items key value refl r; of_kind = kind_set kind items key value rank k })

-- and one that is
pub lone_splits : (objects' : ℕ → Held) (kind root new other : ℕ) (items : List Item) (key : Key) (value : Option (List ℕ)) (xs : List Item) (y : Item) (ys : List Item) → Rises None (keys_of items) → AreOfKind kind items → rank_of key ≡ kind → set_item items key value ≡ xs ++ y ∷ ys
    → nodes_in objects' root ≡ Some (inner_node new (record { key = y.key; child = other } ∷ []) new) → nodes_in objects' new ≡ Some (leaf_node xs (Some other)) → nodes_in objects' other ≡ Some (leaf_node (y ∷ ys) None) → IsTree objects' root kind (set_item items key value)
lone_splits objects' kind root new other items key value xs y ys r k rank cut e one two =
    let rs : Rises None (keys_of (xs ++ y ∷ ys)) = subst (λ zs. Rises None (keys_of zs)) cut (rises_set None items key value refl r) in
    let ks : AreOfKind kind (xs ++ y ∷ ys) = subst (AreOfKind kind) cut (kind_set kind items key value rank k) in
    let ws = within_any (xs ++ y ∷ ys) in
    let kr = kind_right kind xs y ys ks in
    let s : Shape 1 = record { oid = root; head = record { oid = new; items = xs; next = Some other }; tail = record { key = y.key; child = record { oid = other; items = y ∷ ys; next = None } } ∷ []; first = new } in
    let sound : IsSound (nodes_in objects') root kind 1 s = record {
      root_is = refl;
      height = omega arith;
      stands = (e, one, (two, tt));
      bounded = (tt, tt, (rises_left None xs y ys rs, within_left None None None xs y ys rs ws), (rises_right None xs y ys rs, within_right None None None xs y ys rs ws));
      of_kind = (kind_left kind xs y ys ks, (kr.0, kr, tt));
      names = (refl, tt, (tt, tt));
      linked = (refl, refl);
    } in
    inr (1, s, sound, cut)

-- ---- trees of several objects

none_left : (h : ℕ) (ls : List (Limb (Shape h))) → sprouts_of h ls ≡ [] → ls ≡ []
none_left h [] e = refl
none_left h (l ∷ ls) e = absurd cc

-- where no new child comes up, the whole tree is grown
whole_tree : (objects' : ℕ → Held) (kind root h : ℕ) (key : Key) (value : Option (List ℕ)) (to : ℕ) (s : Shape h) → h < 2 ^ 64 → oid_of h s ≡ root → Linked (links_of h s) → Grown (nodes_in objects') kind key value to h None None None s [] → IsTree objects' root kind (set_item (mapping_of h s) key value)
whole_tree objects' kind root h key value to s lt o l r =
    let t : r.tail ≡ [] = none_left h r.tail r.sprouts in
    let lk : links_of h r.head ≡ relink to r.fresh (links_of h s) = sym (ap (joined (links_of h) r.head) t) ∙ r.links in
    let mp : mapping_of h r.head ≡ set_item (mapping_of h s) key value = sym (ap (joined (mapping_of h) r.head) t) ∙ r.mapping in
    let sound : IsSound (nodes_in objects') root kind h r.head = record {
      root_is = r.oid ∙ o;
      height = lt;
      stands = r.fine_head.0;
      bounded = subst (λ ls. Parted (Bounded h) None None r.head ls) t r.parted;
      of_kind = r.fine_head.2;
      names = r.fine_head.1;
      linked = subst Linked (sym lk) (linked_relink to r.fresh (links_of h s) l);
    } in
    inr (h, r.head, sound, sym mp)

module _ (objects objects' : ℕ → Held) (kind : ℕ) (value : Option (List ℕ)) (terms : Terms) (bottom : Bottom) (oids : List ℕ) (rank : rank_of terms.key ≡ kind) (two : 2 ≤ terms.leaf) (three : 3 ≤ terms.inner)
    (rising : (oid : ℕ) (i : Inner) → nodes_in objects oid ≡ Some (node.Inner i) → Rises None (separators_of i.tail))
    (keep : (h : ℕ) (t : Shape h) → OldShape (nodes_in objects) oids kind h t → Avoids bottom.oid (links_of h t) → Fine (nodes_in objects') kind h t) (root : ℕ) where
  abbrev nodes' : ℕ → Option Node
  nodes' = nodes_in objects'

  -- the root's halves go into two new objects
  root_splits : (h : ℕ) (s : Shape (suc h)) (x : Rung) (xs : List Rung) (b c : Change) (sb : IsSet terms bottom xs b) → length c.news < 2 ^ 64 → s.oid ≡ root → OldShape (nodes_in objects) oids kind (suc h) s → Bounded (suc h) None None s → Linked (links_of (suc h) s) → Distinct (links_of (suc h) s) → RungsIn objects value terms bottom (suc h) s (x ∷ xs)
      → RootSplits terms.inner terms.key terms.plain x b c → AllPut nodes' c.news → AllPut nodes' c.olds → IsTree objects' root kind (set_item (mapping_of (suc h) s) terms.key value)
  root_splits h s x xs b c sb few o old bd l d r a pn po =
      let sp = a.split in
      let first : ℕ = seam_first x.seam a.up in
      let one : Put = record { oid = sp.new; class = terms.plain.inner; leaves = x.leaves; node = inner_node x.inner.head sp.left x.inner.first } in
      let two' : Put = record { oid = sp.other; class = terms.plain.inner; leaves = x.leaves; node = inner_node sp.middle.child sp.right first } in
      let top : Put = record { oid = x.oid; class = x.class; leaves = false; node = inner_node sp.new (record { key = sp.middle.key; child = sp.other } ∷ []) x.inner.first } in
      let pp = all_parts nodes' b.olds (top ∷ []) (subst (λ (y : Change). AllPut nodes' y.olds) sp.is po) in
      let qq = all_parts nodes' (b.news ++ one ∷ []) (two' ∷ []) (subst (λ (y : Change). AllPut nodes' y.news) sp.is pn) in
      let ww = all_parts nodes' b.news (one ∷ []) qq.0 in
      let k = grow_children objects nodes' kind value terms bottom oids rank two three rising keep h s x xs b old bd d r sb ww.0 pp.0 (λ none. absurd (none_some b.up a.up none a.some)) in
      let m = in_parts terms.inner terms.key h s.tail k.tail x a.up sp.left sp.middle sp.right three (ap (λ (i : Inner). i.tail) r.1) (up_sprouts h k.tail terms.key (sprouts_of h s.tail) b.up a.up a.some k.sprouts) a.more sp.cut (r.3 b a.up sb a.some a.more) in
      let left : Shape (suc h) = record { oid = sp.new; head = k.head; tail = m.front; first = s.first } in
      let right : Shape (suc h) = record { oid = sp.other; head = m.at.child; tail = m.behind; first = first } in
      let after : Shape (suc (suc h)) = record { oid = s.oid; head = left; tail = record { key = m.at.key; child = right } ∷ []; first = s.first } in
      let e_top : nodes' s.oid ≡ Some (inner_node sp.new (record { key = m.at.key; child = sp.other } ∷ []) s.first) =
      ap nodes' (sym r.0) ∙ pp.1.0 ∙ ap (λ (i : Inner). Some (inner_node sp.new (record { key = sp.middle.key; child = sp.other } ∷ []) i.first)) r.1 ∙ ap (λ (y : Branch). Some (inner_node sp.new (record { key = y.key; child = sp.other } ∷ []) s.first)) (sym m.at_is) in
      let e_one : nodes' sp.new ≡ Some (inner_node (oid_of h k.head) (map (branch_of h) m.front) s.first) =
      ww.1.0 ∙ ap (λ (i : Inner). Some (inner_node i.head sp.left i.first)) r.1 ∙ ap (λ ts. Some (inner_node (oid_of h s.head) ts s.first)) (sym m.left_is) ∙ ap (λ z. Some (inner_node z (map (branch_of h) m.front) s.first)) (sym k.oid) in
      let e_two : nodes' sp.other ≡ Some (inner_node (oid_of h m.at.child) (map (branch_of h) m.behind) first) =
      qq.1.0 ∙ ap (λ (y : Branch). Some (inner_node y.child sp.right first)) (sym m.at_is) ∙ ap (λ ts. Some (inner_node (oid_of h m.at.child) ts first)) (sym m.right_is) in
      let n : s.first ≡ first_leaf h k.head = old.0.1.0 ∙ sym k.first in
      let rs : Rises None (keys_up (sprouts_of h (m.front ++ m.at ∷ m.behind))) = subst (λ ts. Rises None (keys_up (sprouts_of h ts))) m.cut k.rises in
      let pt : Parted (Bounded h) None None k.head (m.front ++ m.at ∷ m.behind) = subst (λ ts. Parted (Bounded h) None None k.head ts) m.cut k.parted in
      let fs = limbs_parts kind (Fine nodes' kind h) m.front m.at m.behind (subst (EachLimb kind (Fine nodes' kind h)) m.cut k.fine_tail) in
      let at = parted_at (Bounded h) None None k.head m.front m.at m.behind pt in
      let fl : Fine nodes' kind (suc h) left = fine_inner nodes' kind h left e_one n k.fine_head fs.0 in
      let fr : Fine nodes' kind (suc h) right = fine_inner nodes' kind h right e_two m.first_is fs.2 fs.3 in
      let lk : links_of (suc (suc h)) after ≡ relink bottom.oid k.fresh (links_of (suc h) s) = sym (joined_append (links_of h) k.head m.front m.at m.behind) ∙ ap (joined (links_of h) k.head) (sym m.cut) ∙ k.links in
      let mp : mapping_of (suc (suc h)) after ≡ set_item (mapping_of (suc h) s) terms.key value = sym (joined_append (mapping_of h) k.head m.front m.at m.behind) ∙ ap (joined (mapping_of h) k.head) (sym m.cut) ∙ k.mapping in
      let count = news_count terms bottom xs b a.up sb a.some in
      let deep : suc (length xs) ≡ suc h = rungs_length objects value terms bottom (suc h) s (x ∷ xs) r in
      let news : length c.news ≡ suc (suc (length b.news)) = ap (λ (z : Change). length z.news) sp.is ∙ length_last (b.news ++ one ∷ []) two' ∙ ap suc (length_last b.news one) in
      let sound : IsSound nodes' root kind (suc (suc h)) after = record {
        root_is = o;
        height = omega (arith, few, count, deep, news);
        stands = (e_top, fl.0, (fr.0, tt));
        bounded = (tt, tt, parted_left h None None None k.head m.front m.at m.behind rs pt, at.2);
        of_kind = (fl.2, (fs.1, fr.2, tt));
        names = (n, fl.1, (fr.1, tt));
        linked = subst Linked (sym lk) (linked_relink bottom.oid k.fresh (links_of (suc h) s) l);
      } in
      inr (suc (suc h), after, sound, sym mp)

  pub tree_set : (h : ℕ) (s : Shape (suc h)) (x : Rung) (xs : List Rung) (c : Change) → suc h < 2 ^ 64 → length c.news < 2 ^ 64 → s.oid ≡ root → OldShape (nodes_in objects) oids kind (suc h) s → Bounded (suc h) None None s → Linked (links_of (suc h) s) → Distinct (links_of (suc h) s) → RungsIn objects value terms bottom (suc h) s (x ∷ xs)
      → IsRootSet terms bottom (x ∷ xs) c → AllPut nodes' c.news → AllPut nodes' c.olds → ((p : ℕ) → stands_in oids p ≡ false → stands_in (map put_oid c.olds) p ≡ false → nodes' p ≡ nodes_in objects p) → IsTree objects' root kind (set_item (mapping_of (suc h) s) terms.key value)
  tree_set h s x xs c lt few o old bd l d r (b, sb, inl a) pn po rs =
      let t = grow objects nodes' kind value terms bottom oids rank two three rising keep (suc h) None None s (x ∷ xs) c old bd tt tt d r (b, sb, inl a) pn po (λ none. rs) in
      let up : c.up ≡ None = ap (λ (y : Change). y.up) a.is ∙ a.none in
      whole_tree objects' kind root (suc h) terms.key value bottom.oid s lt o l (subst (λ u. Grown nodes' kind terms.key value bottom.oid (suc h) None None u s []) up t)
  tree_set h s x xs c lt few o old bd l d r (b, sb, inr (inl a)) pn po rs =
      let t = grow objects nodes' kind value terms bottom oids rank two three rising keep (suc h) None None s (x ∷ xs) c old bd tt tt d r (b, sb, inr (inl a)) pn po (λ none. rs) in
      let up : c.up ≡ None = ap (λ (y : Change). y.up) a.is in
      whole_tree objects' kind root (suc h) terms.key value bottom.oid s lt o l (subst (λ u. Grown nodes' kind terms.key value bottom.oid (suc h) None None u s []) up t)
  tree_set h s x xs c lt few o old bd l d r (b, sb, inr (inr a)) pn po rs = root_splits h s x xs b c sb few o old bd l d r a pn po

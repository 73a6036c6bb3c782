-- What was tried with numbers that are there already.
use Rattle.std.proofs.Common.{◌≡◌, ℕ, ◌<◌, ◌^◌, Bool, true, false, List, [], ◌∷◌, ◌++◌, Option, Result, Ok, Err, refl, arith, sym, ◌∙◌, ap, subst, length}
use Rattle.std.proofs.lemmas.Bool.{eqb-true}
use Rattle.std.specs.Cmp.Lexicographic.{pointwise}
use Rattle.std.specs.Prelude.{◌&&◌, eqb, if◌then◌else◌, map, nat_lt, take, IfErr, OnErr, OnOk}
use Rattle.pickle_graph.specs.Graph.{AllBelow}
use Rattle.btree_family.specs.declared.key.Key.{Key}
use Rattle.btree_family.specs.Classes.{Class}
use Rattle.bucket_state.specs.Laws.{SameHoldsTheSame, LinkStandsApart, WrittenInnerReadsBack}
use Rattle.zb_record.specs.Alike.{AlikeIsKept}
use Rattle.btree_shapes.specs.declared.error.TreeError.{TreeError}
use Rattle.btree_shapes.specs.declared.error.TreeError.TheVariants.{Memory}
use Rattle.btree_shapes.specs.declared.space.Call.{Call}
use Rattle.btree_shapes.specs.declared.space.Call.TheVariants.{Drew}
use Rattle.btree_putting.specs.declared.kept.Kept.{Kept}
use Rattle.btree_putting.specs.declared.puts.Put.{Put}
use Rattle.btree_putting.specs.Kept.{AreTried, kept_put}
use Rattle.btree_putting.specs.Puts.{put_oid, add_put, add_all, keeps, all_keep, IsSoundPut, AreSound}
use Rattle.btree_putting.specs.Storing.{IsFree, IsStored, IsStoredFront}
use Rattle.btree_setting.specs.declared.change.Change.{Change}
use Rattle.btree_setting.specs.declared.growing.Terms.{Terms}
use Rattle.btree_setting.specs.declared.preparing.Sizes.{Sizes}
use Rattle.btree_setting.specs.declared.preparing.Task.{Task}
use Rattle.btree_setting.specs.declared.setting.Ahead.{Ahead}
use Rattle.btree_setting.specs.Changes.{AreDrawn, IsRootSet}
use Rattle.btree_setting.specs.Sets.{AreZero, DrewOf, HasAhead, IsAhead, IsPlan, Passes, Writes, puts_of}
use Rattle.btree_setting.proofs.Alikes.{puts_sound}
use Rattle.btree_setting.proofs.Answering.{undrawn, written_kept, broken_kept}
use Rattle.btree_setting.proofs.Counting.{counts_news, same_count}
use Rattle.btree_setting.proofs.Rekept.{all_kept, both, when}
use Rattle.btree_setting.proofs.Renumbered.{changes_alike}
use Rattle.btree_setting.proofs.Trying.{drew_most, is_trial, length_oids}

-- ---- puts in their order

module _ (class leaf : Class) where
  -- each can be written and read back, and is one of graphs
  abbrev AreGood : List Put → Type 0
  AreGood [] = Unit {0}
  AreGood (p ∷ ps) = ((keeps class leaf p ≡ true) × IsSoundPut class leaf p) × AreGood ps

  good : (ps : List Put) → all_keep class leaf ps ≡ true → AreSound class leaf ps → AreGood ps
  good [] k s = tt
  good (p ∷ ps) k s = let w = when (keeps class leaf p) (all_keep class leaf ps) k in ((w.0, s.0), good ps w.1 s.1)

  good_keep : (ps : List Put) → AreGood ps → all_keep class leaf ps ≡ true
  good_keep [] g = refl
  good_keep (p ∷ ps) g = let rest = good_keep ps g.1 in (λ i. if g.0.0 i then rest i else false)

  good_sound : (ps : List Put) → AreGood ps → AreSound class leaf ps
  good_sound [] g = tt
  good_sound (p ∷ ps) g = (g.0.1, good_sound ps g.1)

  take_one : (p : Put) (qs : List Put) → AreGood (add_put p qs) → ((keeps class leaf p ≡ true) × IsSoundPut class leaf p) × AreGood qs
  take_one p [] g = (g.0, tt)
  take_one p (q ∷ qs) g = by_test (nat_lt q.oid p.oid) (take_one p qs) g
    where
      by_test : (b : Bool) → (AreGood (add_put p qs) → ((keeps class leaf p ≡ true) × IsSoundPut class leaf p) × AreGood qs) → AreGood (if b then q ∷ add_put p qs else p ∷ q ∷ qs) → ((keeps class leaf p ≡ true) × IsSoundPut class leaf p) × AreGood (q ∷ qs)
      by_test true r g = let t = r g.1 in (t.0, (g.0, t.1))
      by_test false r g = (g.0, g.1)

  unsorted : (ps : List Put) → AreGood (add_all ps []) → AreGood ps
  unsorted [] g = tt
  unsorted (p ∷ ps) g = let t = take_one p (add_all ps []) g in (t.0, unsorted ps t.1)

  good_front : (ps qs : List Put) → AreGood (ps ++ qs) → AreGood ps
  good_front [] qs g = tt
  good_front (p ∷ ps) qs g = (g.0, good_front ps qs g.1)

  good_behind : (ps qs : List Put) → AreGood (ps ++ qs) → AreGood qs
  good_behind [] qs g = g
  good_behind (p ∷ ps) qs g = good_behind ps qs g.1

-- ---- the trial

zeros_below : (oids : List ℕ) → AreZero oids → AllBelow (2 ^ 64) oids
zeros_below [] z = tt
zeros_below (x ∷ xs) z = (let e = z.0 in omega (arith, e), zeros_below xs z.1)

-- where a change with any numbers can be written, so can the one with 0 for each
module _ (alike : AlikeIsKept) (holds : SameHoldsTheSame) (apart : LinkStandsApart) (written : WrittenInnerReadsBack) where
  pub passes_too : (class leaf : Class) (terms : Terms) (task : Task) (zeros : List ℕ) (zero change : Change) (count : ℕ) (kept : List Kept) → AreZero zeros → AreDrawn zeros zero.news → IsRootSet terms task.bottom task.rungs zero → IsRootSet terms task.bottom task.rungs change → count ≡ length change.news → AreTried class leaf (puts_of change) kept → Passes class leaf terms task count
  passes_too class leaf terms task zeros zero change count kept z d s t n tried =
      let trial = is_trial terms task zero zeros z d s in
      let c = changes_alike terms task.bottom task.rungs change zero t s (zeros_below (map put_oid zero.news) trial.zero) in
      let all = unsorted class leaf (change.news ++ change.olds) (good class leaf (puts_of change) tried.all_so tried.sound) in
      let news = good_front class leaf change.news change.olds all in
      let olds = good_behind class leaf change.news change.olds all in
      let news_keep = all_kept apart written alike holds class leaf change.news zero.news c.news (good_sound class leaf change.news news) (good_keep class leaf change.news news) in
      let olds_keep = all_kept apart written alike holds class leaf change.olds zero.olds c.olds (good_sound class leaf change.olds olds) (good_keep class leaf change.olds olds) in
      record {
        change = zero;
        trial = trial;
        kept = ap (λ b. b && all_keep class leaf zero.olds) news_keep ∙ olds_keep;
        sound_news = puts_sound class leaf change.news zero.news c.news (good_sound class leaf change.news news);
        sound_olds = puts_sound class leaf change.olds zero.olds c.olds (good_sound class leaf change.olds olds);
        counted = n ∙ same_count terms task.bottom task.rungs change zero t s;
      }

  pub is_ahead : (class leaf : Class) (terms : Terms) (task : Task) (zeros numbers : List ℕ) (zero change : Change) (puts : List Put) (count : ℕ) (kept : List Kept) → AreZero zeros → AreDrawn zeros zero.news → IsRootSet terms task.bottom task.rungs zero → AreDrawn numbers change.news → IsRootSet terms task.bottom task.rungs change → count ≡ length change.news → puts ≡ puts_of change → AreTried class leaf puts kept → IsAhead class leaf terms task numbers (record { count = count; kept = kept })
  is_ahead class leaf terms task zeros numbers zero change puts count kept z d s drawn t n p tried =
      let sorted = subst (λ ps. AreTried class leaf ps kept) p tried in
      record {
        passes = passes_too class leaf terms task zeros zero change count kept z d s t n sorted;
        change = change;
        set = t;
        drawn = drawn;
        tried = sorted;
      }

-- ---- the numbers

take_front : (xs ys : List ℕ) → take (length xs) (xs ++ ys) ≡ xs
take_front [] ys = refl
take_front (x ∷ xs) ys = ap (λ zs. x ∷ zs) (take_front xs ys)

-- what was drawn is what was tried
oids_are : (numbers oids : List ℕ) (news : List Put) → AreDrawn numbers news → length oids ≡ length news → take (length oids) numbers ≡ oids → oids ≡ map put_oid news
oids_are numbers oids news d l e =
    let many : length oids ≡ length (map put_oid news) = l ∙ sym (length_oids news) in
    sym e ∙ (λ i. take (many i) (d.cut i)) ∙ take_front (map put_oid news) d.rest

ahead_plan : (told : Type 0) (class leaf : Class) (terms : Terms) (task : Task) (numbers oids : List ℕ) (ahead : Ahead) (log log' : List Call) → (a : IsAhead class leaf terms task numbers ahead) → length oids ≡ ahead.count → take (length oids) numbers ≡ oids → AllBelow (2 ^ 64) oids → ahead.count < 2 ^ 64 → (told → log' ≡ log ++ map Drew oids) → IsPlan told terms task (puts_of a.change) log log'
ahead_plan told class leaf terms task numbers oids ahead log log' a l e b w drew =
    let counted : length a.change.news ≡ ahead.count = counts_news class leaf terms task ahead.count a.passes a.change a.set in
    let same : oids ≡ map put_oid a.change.news = oids_are numbers oids a.change.news a.drawn (l ∙ sym counted) e in
    record {
      change = a.change;
      set = a.set;
      puts_are = refl;
      few = omega (arith, counted, w);
      numbers = subst (AllBelow (2 ^ 64)) same b;
      drawn = λ t. drew t ∙ ap (λ xs. log ++ map Drew xs) same;
    }

oids_same : (xs ys : List ℕ) → pointwise eqb xs ys ≡ true → xs ≡ ys
oids_same [] [] e = refl
oids_same [] (y ∷ ys) e = cc
oids_same (x ∷ xs) [] e = cc
oids_same (x ∷ xs) (y ∷ ys) e = let p = both (eqb x y) (pointwise eqb xs ys) e in ap (λ z. z ∷ xs) (eqb-true x y p.0) ∙ ap (λ zs. y ∷ zs) (oids_same xs ys p.1)

-- a front that is the same as others
pub front_same : (numbers front oids : List ℕ) (b : Bool) → front ≡ take (length oids) numbers → b ≡ pointwise eqb front oids → b ≡ true → take (length oids) numbers ≡ oids
front_same numbers front oids b f e t = sym f ∙ oids_same front oids (sym e ∙ t)

-- ---- how it ends

module _ (told : Type 0) (class leaf : Class) (sizes : Sizes) (key : Key) (task : Task) (numbers : List ℕ) (count : ℕ) (kept : List Kept) (h : HasAhead class leaf sizes key task numbers (record { count = count; kept = kept })) where
  pub ahead_undrawn : (f f' : ℕ → Option (List ℕ)) (log log' : List Call) (e : TreeError) → IsFree e → f' ≡ f → (told → DrewOf count e log log') → Writes told class leaf sizes key task f f' log log' (Err e)
  ahead_undrawn f f' log log' e free c l = undrawn told class leaf sizes key task h.terms count f f' log log' e free h.terms_are h.is_ahead.passes c l

  pub ahead_other : (f f' : ℕ → Option (List ℕ)) (log log' : List Call) (oids : List ℕ) → length oids ≡ count → f' ≡ f → (told → log' ≡ log ++ map Drew oids) → Writes told class leaf sizes key task f f' log log' (Err Memory)
  ahead_other f f' log log' oids l c drew = ahead_undrawn f f' log log' Memory tt c (λ t. drew_most count Memory log log' oids refl (drew t) (omega (arith, l)))

  -- the numbers that were drawn, seen as those that are compared
  abbrev drawn_so : List ℕ → List ℕ → Type 0
  drawn_so given oids = (given ≡ oids) × (take (length given) numbers ≡ given)

  front_of : (given oids : List ℕ) → drawn_so given oids → take (length oids) numbers ≡ oids
  front_of given oids h = subst (λ xs. take (length xs) numbers ≡ xs) h.0 h.1

  ahead_written : (f g f' : ℕ → Option (List ℕ)) (log middle log' : List Call) (given oids : List ℕ) → g ≡ f → length oids ≡ count → given ≡ oids → take (length given) numbers ≡ given → AllBelow (2 ^ 64) oids → count < 2 ^ 64 → (told → middle ≡ log ++ map Drew oids) → IsStored told class leaf (map kept_put kept) g f' middle log' → Writes told class leaf sizes key task f f' log log' (Ok tt)
  ahead_written f g f' log middle log' given oids c l is e b w drew s =
      let a = h.is_ahead in
      let there = subst (λ x. IsStored told class leaf (map kept_put kept) x f' middle log') c s in
      written_kept told class leaf sizes key task h.terms count (puts_of a.change) kept f f' log middle log' h.terms_are a.passes (ahead_plan told class leaf h.terms task numbers oids (record { count = count; kept = kept }) log middle a l (front_of given oids (is, e)) b w drew) a.tried there

  ahead_broken : (f g f' : ℕ → Option (List ℕ)) (log middle log' : List Call) (given oids : List ℕ) (e : TreeError) → IsFree e → g ≡ f → length oids ≡ count → given ≡ oids → take (length given) numbers ≡ given → AllBelow (2 ^ 64) oids → count < 2 ^ 64 → (told → middle ≡ log ++ map Drew oids) → IsStoredFront told class leaf (map kept_put kept) g f' middle log' → Writes told class leaf sizes key task f f' log log' (Err e)
  ahead_broken f g f' log middle log' given oids e free c l is t b w drew s =
      let a = h.is_ahead in
      let there = subst (λ x. IsStoredFront told class leaf (map kept_put kept) x f' middle log') c s in
      broken_kept told class leaf sizes key task h.terms count (puts_of a.change) kept f f' log middle log' e h.terms_are a.passes (ahead_plan told class leaf h.terms task numbers oids (record { count = count; kept = kept }) log middle a l (front_of given oids (is, t)) b w drew) a.tried free there

  -- once the numbers were drawn that were tried
  pub ahead_ends : (f g f' : ℕ → Option (List ℕ)) (log middle log' : List Call) (given oids : List ℕ) (result : Result (Unit {0}) TreeError) → g ≡ f → length oids ≡ count → given ≡ oids → take (length given) numbers ≡ given → AllBelow (2 ^ 64) oids → count < 2 ^ 64 → (told → middle ≡ log ++ map Drew oids) →
      OnOk result (IsStored told class leaf (map kept_put kept) g f' middle log') → OnErr result (IsStoredFront told class leaf (map kept_put kept) g f' middle log') → IfErr result IsFree → Writes told class leaf sizes key task f f' log log' result
  ahead_ends f g f' log middle log' given oids (Ok u) c l is t b w drew ok err free = ahead_written f g f' log middle log' given oids c l is t b w drew ok
  ahead_ends f g f' log middle log' given oids (Err e) c l is t b w drew ok err free = ahead_broken f g f' log middle log' given oids e free c l is t b w drew err

-- A call that is made again over the same objects draws as many numbers.
use Rattle.std.proofs.Common.{◌≡◌, ℕ, suc, List, [], ◌∷◌, ◌++◌, length, map, Option, Some, None, Result, Ok, Err, refl, sym, ap, subst, ◌∙◌, inl, inr, ◌⊎◌}
use Rattle.zb_model.specs.declared.refusal.Refusal.{Refusal}
use Rattle.btree_family.specs.declared.key.Key.{Key}
use Rattle.btree_family.specs.Classes.{Class, classes, leaf_in}
use Rattle.btree_shapes.specs.declared.space.Call.{Call}
use Rattle.btree_shapes.specs.declared.space.Call.TheVariants.{Drew}
use Rattle.btree_shapes.specs.declared.error.TreeError.{TreeError}
use Rattle.btree_shapes.specs.declared.error.TreeError.TheVariants as error
use Rattle.btree_shapes.specs.Ways.{IsRefusal}
use Rattle.btree_putting.specs.declared.puts.Put.{Put}
use Rattle.btree_putting.specs.Puts.{put_oid}
use Rattle.btree_putting.specs.Storing.{wrote}
use Rattle.btree_setting.specs.Types.{Task, Terms}
use Rattle.btree_setting.specs.Sets.{CountsNews, Fails, Writes, terms_of}
use Rattle.btree_setting.specs.Tasks.{task_under}
use Rattle.btree_setting.specs.Ends.{ChangesAreAlike, HasTask, Needs, Sets}
use Rattle.btree_maps.specs.Drawn.{drawn_in}
use Rattle.tree_attempts.specs.declared.known.Seen.{Seen}
use Rattle.tree_attempts.specs.declared.operation.TreeAnswer.{TreeAnswer}
use Rattle.tree_attempts.specs.declared.operation.TreeAnswer.TheVariants as answer
use Rattle.tree_attempts.specs.declared.operation.TreeOperation.{TreeOperation}
use Rattle.tree_attempts.specs.declared.operation.TreeOperation.TheVariants as operation
use Rattle.tree_attempts.specs.Calls.{CallAnswers, NeedsNumbers, contents_after, contents_of, refusal_of, sizes}
use Rattle.tree_attempts.specs.Laws.{CallsDrawAlike, DrawsSoMany}
use Rattle.tree_attempts.proofs.Refused.{drawn_both, drawn_under}

some_same : {X : Type 0} (a b : X) → Some a ≡ Some b → a ≡ b
some_same a b e = cc

task_same : (a b : Task) (x : Result (Option Task) TreeError) → x ≡ Ok (Some a) → x ≡ Ok (Some b) → a ≡ b
task_same a b x e f = ok_same a b (sym e ∙ f)
  where
    ok_same : (a b : Task) → (let x : Result (Option Task) TreeError = Ok (Some a) in x) ≡ Ok (Some b) → a ≡ b
    ok_same a b e = cc

drawn_drew : (oids : List ℕ) → drawn_in (map Drew oids) ≡ oids
drawn_drew [] = refl
drawn_drew (oid ∷ oids) = ap (λ (os : List ℕ). oid ∷ os) (drawn_drew oids)

drawn_wrote : (puts : List Put) → drawn_in (map wrote puts) ≡ []
drawn_wrote [] = refl
drawn_wrote (p ∷ puts) = drawn_wrote puts

length_oids : (news : List Put) → length (map put_oid news) ≡ length news
length_oids [] = refl
length_oids (p ∷ news) = ap suc (length_oids news)

nil_behind : (os : List ℕ) → os ++ [] ≡ os
nil_behind [] = refl
nil_behind (o ∷ os) = ap (λ (ps : List ℕ). o ∷ ps) (nil_behind os)

module _ (alike : ChangesAreAlike) (before : ℕ → Option (List ℕ)) (root : ℕ) (key : Key) (value : Option (List ℕ)) (count : ℕ) (n : Needs before root sizes key value count) where
  -- so many new objects in each change of this set
  counts : (class leaf : Class) (task : Task) (terms : Terms) → class ≡ n.class → leaf ≡ n.leaf → task ≡ n.task → terms_of class leaf sizes key ≡ Some terms → CountsNews terms task count
  counts class leaf task terms c l t is =
      let same : terms ≡ n.terms = some_same terms n.terms (sym is ∙ ap (λ (x : Class). terms_of x leaf sizes key) c ∙ ap (λ (x : Class). terms_of n.class x sizes key) l ∙ n.terms_are) in
      subst (λ (x : Terms). CountsNews x task count) (sym same) (subst (λ (x : Task). CountsNews n.terms x count) (sym t) (alike n.class n.leaf n.terms n.task count n.passes).counts)

  class_same : (class : Class) (held : Option Class) → held ≡ Some class → held ≡ Some n.class → class ≡ n.class
  class_same class held e f = some_same class n.class (sym e ∙ f)

  leaf_same : (class leaf : Class) → class ≡ n.class → leaf_in classes class ≡ Some leaf → leaf ≡ n.leaf
  leaf_same class leaf c l = some_same leaf n.leaf (sym l ∙ ap (leaf_in classes) c ∙ n.leaf_is)

  needs_alike : (other : ℕ) → Needs before root sizes key value other → other ≡ count
  needs_alike other x =
      let c : x.class ≡ n.class = class_same x.class _ x.class_is n.class_is in
      let l : x.leaf ≡ n.leaf = leaf_same x.class x.leaf c x.leaf_is in
      let t : x.task ≡ n.task = task_same x.task n.task _ x.task_is n.task_is in
      x.passes.counted ∙ counts x.class x.leaf x.task x.terms c l t x.terms_are x.passes.change x.passes.trial.set

  written_alike : (after : ℕ → Option (List ℕ)) (calls : List Call) (u : Unit {0}) → HasTask (Unit {0}) before after [] calls root sizes key value (Ok u) → length (drawn_in calls) ≡ count
  written_alike after calls u x =
      let c : x.class ≡ n.class = class_same x.class _ x.class_is n.class_is in
      let l : x.leaf ≡ n.leaf = leaf_same x.class x.leaf c x.leaf_is in
      let t : x.task ≡ n.task = task_same x.task n.task _ x.task_is n.task_is in
      let w = x.writes in
      let p = w.plan in
      let oids : List ℕ = map put_oid p.plan.change.news in
      let drew : drawn_in w.middle ≡ oids = ap drawn_in (p.plan.drawn tt) ∙ drawn_both x.middle (map Drew oids) ∙ ap (λ (os : List ℕ). os ++ drawn_in (map Drew oids)) (drawn_under before root sizes key value x.middle (x.reads tt)) ∙ drawn_drew oids in
      let all : drawn_in calls ≡ oids = ap drawn_in (w.stored.log tt) ∙ drawn_both w.middle (map wrote w.puts) ∙ ap (λ (os : List ℕ). drawn_in w.middle ++ os) (drawn_wrote w.puts) ∙ nil_behind (drawn_in w.middle) ∙ drew in
      ap length all ∙ length_oids p.plan.change.news ∙ counts x.class x.leaf x.task p.terms c l t p.terms_are p.plan.change p.plan.set

  none_left : (a b : Option Task) (x : Result (Option Task) TreeError) → x ≡ Ok a → x ≡ Ok b → a ≡ b
  none_left a b x e f = ok_same a b (sym e ∙ f)
    where
      ok_same : (a b : Option Task) → (let x : Result (Option Task) TreeError = Ok a in x) ≡ Ok b → a ≡ b
      ok_same a b e = cc

  not_none : {X : Type 0} (t : Task) → (let x : Option Task = None in x) ≡ Some t → X
  not_none t e = absurd cc

  sets_alike : (after : ℕ → Option (List ℕ)) (calls : List Call) (u : Unit {0}) → Sets (Unit {0}) before after [] calls root sizes key value (Ok u) → length (drawn_in calls) ≡ count
  sets_alike after calls u (inl x) = not_none n.task (none_left None (Some n.task) _ x.none n.task_is)
  sets_alike after calls u (inr x) = written_alike after calls u x

  made_alike : (after : ℕ → Option (List ℕ)) (calls : List Call) (a : TreeAnswer) → CallAnswers before after calls root (operation.Set key value) a → length (drawn_in calls) ≡ count
  made_alike after calls (answer.Value v) is = absurd is
  made_alike after calls answer.Set is = sets_alike after calls _ is
  made_alike after calls (answer.Removed was) is = absurd is
  made_alike after calls (answer.Items list is_set) is = absurd is

  task_not_refused : (e : TreeError) (x : Result (Option Task) TreeError) → x ≡ Ok (Some n.task) → x ≡ Err e → ⊥
  task_not_refused e x is refused = both (sym is ∙ refused)
    where
      both : (let y : Result (Option Task) TreeError = Ok (Some n.task) in y) ≡ Err e → ⊥
      both e = absurd cc

  before_alike : (e : TreeError) (why : Refusal) → refusal_of e ≡ Some why → IsRefusal e (task_under before root sizes key value) → ⊥
  before_alike (error.NotATree oid) why told is = task_not_refused (error.NotATree oid) _ n.task_is is
  before_alike (error.NodeMissing oid) why told is = task_not_refused (error.NodeMissing oid) _ n.task_is is
  before_alike error.BadKey why told is = task_not_refused error.BadKey _ n.task_is is
  before_alike (error.Refused r) why told is = absurd cc
  before_alike error.Memory why told is = absurd cc

  fails_alike : (class leaf : Class) (task : Task) → class ≡ n.class → leaf ≡ n.leaf → task ≡ n.task → (terms_of class leaf sizes key ≡ None) ⊎ ((terms : Terms) × (terms_of class leaf sizes key ≡ Some terms) × Fails class leaf terms task) → ⊥
  fails_alike class leaf task c l t (inl none) = no_terms (sym none ∙ ap (λ (x : Class). terms_of x leaf sizes key) c ∙ ap (λ (x : Class). terms_of n.class x sizes key) l ∙ n.terms_are)
    where
      no_terms : (let x : Option Terms = None in x) ≡ Some n.terms → ⊥
      no_terms e = absurd cc
  fails_alike class leaf task c l t (inr (terms, is, fails)) =
      let same : terms ≡ n.terms = some_same terms n.terms (sym is ∙ ap (λ (x : Class). terms_of x leaf sizes key) c ∙ ap (λ (x : Class). terms_of n.class x sizes key) l ∙ n.terms_are) in
      (alike n.class n.leaf n.terms n.task count n.passes).never_fails
      (subst (λ (x : Class). Fails x n.leaf n.terms n.task) c (subst (λ (x : Class). Fails class x n.terms n.task) l (subst (λ (x : Terms). Fails class leaf x n.task) same (subst (λ (x : Task). Fails class leaf terms x) t fails))))

  stopped_alike : (after : ℕ → Option (List ℕ)) (middle calls : List Call) (class leaf : Class) (task : Task) (e : TreeError) (why : Refusal) → refusal_of e ≡ Some why → class ≡ n.class → leaf ≡ n.leaf → task ≡ n.task → Writes (Unit {0}) class leaf sizes key task before after middle calls (Err e) → ⊥
  stopped_alike after middle calls class leaf task (error.NotATree oid) why told c l t w = w
  stopped_alike after middle calls class leaf task (error.NodeMissing oid) why told c l t w = w
  stopped_alike after middle calls class leaf task error.BadKey why told c l t w = fails_alike class leaf task c l t w.fails
  stopped_alike after middle calls class leaf task (error.Refused r) why told c l t w = absurd cc
  stopped_alike after middle calls class leaf task error.Memory why told c l t w = absurd cc

  refused_alike : (after : ℕ → Option (List ℕ)) (calls : List Call) (e : TreeError) (why : Refusal) → refusal_of e ≡ Some why → Sets (Unit {0}) before after [] calls root sizes key value (Err e) → ⊥
  refused_alike after calls e why told (inl x) = before_alike e why told x.refusal
  refused_alike after calls e why told (inr x) =
      let c : x.class ≡ n.class = class_same x.class _ x.class_is n.class_is in
      let l : x.leaf ≡ n.leaf = leaf_same x.class x.leaf c x.leaf_is in
      let t : x.task ≡ n.task = task_same x.task n.task _ x.task_is n.task_is in
      stopped_alike after x.middle calls x.class x.leaf x.task e why told c l t x.writes

draws_so : ChangesAreAlike → (objects : ℕ → Option Seen) (root : ℕ) (op : TreeOperation) (count : ℕ) → NeedsNumbers (contents_of objects) root op count → DrawsSoMany objects root op count
draws_so alike objects root (operation.Get key) count n = absurd n
draws_so alike objects root (operation.Set key value) count n = record {
  needed = needs_alike alike (contents_of objects) root key value count n;
  drawn = λ numbers a puts is. ap length (sym is.drawn) ∙ made_alike alike (contents_of objects) root key value count n (contents_after puts (contents_of objects)) is.calls a is.answers;
  unrefused = λ why is. refused_alike alike (contents_of objects) root key value count n is.after is.calls is.e why is.told is.fails;
}
draws_so alike objects root (operation.Remove key) count n = absurd n
draws_so alike objects root operation.Items count n = absurd n
draws_so alike objects root (operation.Range from to) count n = absurd n

pub calls_draw_alike : ChangesAreAlike → CallsDrawAlike
calls_draw_alike alike = draws_so alike

-- Trying the records of a set, and its numbers.
use Rattle.std.proofs.Common.{◌≡◌, ℕ, ◌+◌, ◌-◌, ◌<◌, ◌≤◌, ◌^◌, true, false, List, [], ◌∷◌, ◌++◌, refl, arith, sym, ◌∙◌, ap, subst, length, suc, append-nil}
use Rattle.std.specs.Prelude.{◌&&◌, map, Option, Some, Result, Ok, Err, IfErr, MatchOption}
use Rattle.pickle_graph.specs.Graph.{AllBelow}
use Rattle.btree_family.specs.Classes.{Class}
use Rattle.btree_shapes.specs.declared.space.Call.{Call}
use Rattle.btree_shapes.specs.declared.space.Call.TheVariants.{Drew}
use Rattle.btree_shapes.specs.declared.error.TreeError.{TreeError}
use Rattle.btree_shapes.specs.declared.error.TreeError.TheVariants.{NotATree, NodeMissing, BadKey, Refused, Memory}
use Rattle.btree_putting.specs.Storing.{IsFree}
use Rattle.btree_putting.specs.declared.puts.Put.{Put}
use Rattle.btree_setting.specs.declared.change.Change.{Change}
use Rattle.btree_setting.specs.declared.growing.Terms.{Terms}
use Rattle.btree_setting.specs.declared.preparing.Task.{Task}
use Rattle.btree_putting.specs.Puts.{put_oid, sort_puts, all_keep}
use Rattle.btree_putting.specs.declared.kept.Kept.{Kept}
use Rattle.btree_putting.specs.Kept.{AreTried, kept_put}
use Rattle.btree_setting.specs.declared.setting.Trial.{Trial}
use Rattle.btree_setting.specs.Changes.{AreDrawn, IsRootSet}
use Rattle.btree_setting.specs.Sets.{AreZero, DrewOf, IsTrial, IsTried, Tried, Fails, CountsNews, IsPlan}

pub zero_push : (oids : List ℕ) → AreZero oids → AreZero (oids ++ 0 ∷ [])
zero_push [] z = (refl, tt)
zero_push (x ∷ xs) z = (z.0, zero_push xs z.1)

zero_front : (xs ys : List ℕ) → AreZero (xs ++ ys) → AreZero xs
zero_front [] ys z = tt
zero_front (x ∷ xs) ys z = (z.0, zero_front xs ys z.1)

zero_news : (oids : List ℕ) (news : List Put) → AreZero oids → AreDrawn oids news → AreZero (map put_oid news)
zero_news oids news z d = zero_front (map put_oid news) d.rest (subst AreZero d.cut z)

pub is_trial : (terms : Terms) (task : Task) (change : Change) (oids : List ℕ) → AreZero oids → AreDrawn oids change.news → IsRootSet terms task.bottom task.rungs change → IsTrial terms task change
is_trial terms task change oids z d s = record { set = s; zero = zero_news oids change.news z d }

pub is_tried : (class leaf : Class) (terms : Terms) (task : Task) (change : Change) (count : ℕ) (news olds : List Kept) → IsTrial terms task change → AreTried class leaf change.news news → AreTried class leaf change.olds olds → count ≡ length change.news → IsTried class leaf terms task (record { count = count; olds = olds })
is_tried class leaf terms task change count news olds t n o c = record {
  passes = record {
    change = change;
    trial = t;
    kept = ap (λ b. b && all_keep class leaf change.olds) n.all_so ∙ o.all_so;
    sound_news = n.sound;
    sound_olds = o.sound;
    counted = c;
  };
  olds = o;
}

pub some_case : {X : Type 0} (A : Type 0) (P : X → Type 0) (o : Option X) (x : X) → o ≡ Some x → MatchOption o A P → P x
some_case A P o x e m = subst (λ p. MatchOption p A P) e m

pub tried_some : (class leaf : Class) (terms : Terms) (task : Task) (o : Option Trial) (trial : Trial) → o ≡ Some trial → Tried class leaf terms task o → IsTried class leaf terms task trial
tried_some class leaf terms task o trial e t = subst (Tried class leaf terms task) e t

pub news_fail : (class leaf : Class) (terms : Terms) (task : Task) (change : Change) → IsTrial terms task change → all_keep class leaf change.news ≡ false → Fails class leaf terms task
news_fail class leaf terms task change t n = record { change = change; trial = t; fails = ap (λ b. b && all_keep class leaf change.olds) n }

pub olds_fail : (class leaf : Class) (terms : Terms) (task : Task) (change : Change) (news : List Kept) → IsTrial terms task change → AreTried class leaf change.news news → all_keep class leaf change.olds ≡ false → Fails class leaf terms task
olds_fail class leaf terms task change news t n o = record { change = change; trial = t; fails = ap (λ b. b && all_keep class leaf change.olds) n.all_so ∙ o }

-- where as many were drawn as there are new objects, each has its own
length_append : (xs ys : List ℕ) → length (xs ++ ys) ≡ length xs + length ys
length_append [] ys = omega arith
length_append (x ∷ xs) ys = let r = length_append xs ys in omega (arith, r)

pub length_oids : (news : List Put) → length (map put_oid news) ≡ length news
length_oids [] = refl
length_oids (x ∷ xs) = ap suc (length_oids xs)

none_left : (rest : List ℕ) → length rest ≡ 0 → rest ≡ []
none_left [] e = refl
none_left (x ∷ xs) e = absurd (omega (arith, e))

pub all_drawn : (oids : List ℕ) (news : List Put) → AreDrawn oids news → length news ≡ length oids → oids ≡ map put_oid news
all_drawn oids news d e =
    let a : length oids ≡ length (map put_oid news) + length d.rest = ap length d.cut ∙ length_append (map put_oid news) d.rest in
    let b : length (map put_oid news) ≡ length news = length_oids news in
    let r : d.rest ≡ [] = none_left d.rest (omega (arith, a, b, e)) in
    d.cut ∙ ap (λ xs. map put_oid news ++ xs) r ∙ append-nil (map put_oid news)

pub is_plan : (told : Type 0) (terms : Terms) (task : Task) (change : Change) (puts : List Put) (oids : List ℕ) (count : ℕ) (log log' : List Call) → IsRootSet terms task.bottom task.rungs change → puts ≡ sort_puts (change.news ++ change.olds) → AreDrawn oids change.news → CountsNews terms task count → length oids ≡ count → AllBelow (2 ^ 64) oids → count < 2 ^ 64 → (told → log' ≡ log ++ map Drew oids) → IsPlan told terms task puts log log'
is_plan told terms task change puts oids count log log' s p d n e b w l = record {
  change = change;
  set = s;
  puts_are = p;
  few = let c = n change s in omega (arith, c, w);
  numbers = subst (AllBelow (2 ^ 64)) (all_drawn oids change.news d (n change s ∙ sym e)) b;
  drawn = λ t. l t ∙ ap (λ xs. log ++ map Drew xs) (all_drawn oids change.news d (n change s ∙ sym e));
}

no_news : (news : List Put) → length news ≡ 0 → news ≡ []
no_news [] e = refl
no_news (x ∷ xs) e = absurd (omega (arith, e))

sort_one : (kept : List Kept) → length kept ≡ 1 → sort_puts (map kept_put kept) ≡ map kept_put kept
sort_one [] e = absurd (omega (arith, e))
sort_one (x ∷ []) e = refl
sort_one (x ∷ y ∷ ys) e = absurd (omega (arith, e))

-- where nothing is split, what was tried is the plan
pub is_whole : (told : Type 0) (class leaf : Class) (terms : Terms) (task : Task) (trial : Trial) (log : List Call) → IsTried class leaf terms task trial → trial.count ≡ 0 → length trial.olds ≡ 1 → IsPlan told terms task (map kept_put trial.olds) log log
is_whole told class leaf terms task trial log t z o =
    let change : Change = t.passes.change in
    let none : change.news ≡ [] = no_news change.news (sym t.passes.counted ∙ z) in
    record {
      change = change;
      set = t.passes.trial.set;
      puts_are = sym (sort_one trial.olds o) ∙ ap sort_puts t.olds.puts_are ∙ ap (λ ns. sort_puts (ns ++ change.olds)) (sym none);
      few = let c = t.passes.counted in omega (arith, c, z);
      numbers = subst (λ ns. AllBelow (2 ^ 64) (map put_oid ns)) (sym none) tt;
      drawn = λ x. sym (ap (λ ns. log ++ map Drew (map put_oid ns)) none ∙ append-nil log);
    }

pub any_err : {X E : Type 0} (r : Result X E) (P : Type 0) → P → IfErr r (λ e. P)
any_err (Ok x) P p = tt
any_err (Err e) P p = p

-- one number was refused, and so many were drawn before it
pub drew_fewer : (count : ℕ) (e : TreeError) (log middle log' : List Call) (oids : List ℕ) → IsFree e → middle ≡ log ++ map Drew oids → log' ≡ middle → length oids < count → DrewOf count e log log'
drew_fewer count (NotATree oid) log middle log' oids free m l f = absurd free
drew_fewer count (NodeMissing oid) log middle log' oids free m l f = absurd free
drew_fewer count BadKey log middle log' oids free m l f = absurd free
drew_fewer count (Refused refusal) log middle log' oids free m l f = record { oids = oids; grown = l ∙ m; below = f }
drew_fewer count Memory log middle log' oids free m l f = record { oids = oids; grown = l ∙ m; below = omega (arith, f) }

-- there was no memory behind so many
pub drew_most : (count : ℕ) (e : TreeError) (log log' : List Call) (oids : List ℕ) → e ≡ Memory → log' ≡ log ++ map Drew oids → length oids ≤ count → DrewOf count e log log'
drew_most count e log log' oids is l f = subst (λ (x : TreeError). DrewOf count x log log') (sym is) (record { oids = oids; grown = l; below = omega (arith, f) })

pub one_more : (oids : List ℕ) (oid left count : ℕ) → length oids + left ≡ count → 0 < left → length (oids ++ oid ∷ []) ≤ count
one_more oids oid left count e l = let n : length (oids ++ oid ∷ []) ≡ length oids + 1 = length_append oids (oid ∷ []) in omega (arith, n, e, l)

below_last : (n : ℕ) (oids : List ℕ) (oid : ℕ) → AllBelow n oids → oid < n → AllBelow n (oids ++ oid ∷ [])
below_last n [] oid h l = (l, tt)
below_last n (x ∷ xs) oid h l = (h.0, below_last n xs oid h.1 l)

pub below_more : (n : ℕ) (oids all : List ℕ) (oid : ℕ) → AllBelow n oids → oid < n → all ≡ oids ++ oid ∷ [] → AllBelow n all
below_more n oids all oid h l e = subst (AllBelow n) (sym e) (below_last n oids oid h l)

-- one less is left
pub drawn_count : (oids all : List ℕ) (oid left count : ℕ) → length oids + left ≡ count → 0 < left → all ≡ oids ++ oid ∷ [] → length all + (left - 1) ≡ count
drawn_count oids all oid left count e l a =
    let n : length all ≡ length oids + 1 = ap length a ∙ length_append oids (oid ∷ []) in
    omega (arith, n, e, l)

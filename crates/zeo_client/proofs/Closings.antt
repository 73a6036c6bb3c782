-- Entries that are closed one after another.
use Rattle.std.proofs.Common.{◌≡◌, ℕ, ◌+◌, ◌<◌, ◌≤◌, Bool, true, false, cond, List, [], ◌∷◌, take, length, get_or, Option, Some, None, refl, sym, ap, ◌∙◌, nat_lt}
use Rattle.std.specs.Prelude.{◌||◌, ◌==◌, if◌then◌else◌}
use Rattle.std.specs.List.{list_any}
use Rattle.std.specs.Option.{option_map}
use Rattle.std.proofs.lemmas.List.Folds.{list_any_more}
use Rattle.connection_view.specs.Views.{is_one_of}
use Rattle.zeo_cache.specs.declared.interval.Interval.{Interval}
use Rattle.zeo_cache.specs.Intervals.{HoldsClosed, Intervals, closed_at, closed_one, end_at, interval_of}
use Rattle.zeo_client.specs.Hearing.{ChangedBy, closed_all}

same_option : (o : Option Interval) (f : Interval → Interval) → ((e : Interval) → f e ≡ e) → o ≡ option_map f o
same_option None f same = refl
same_option (Some e) f same = ap (λ (x : Interval). Some x) (sym (same e))

-- nothing is closed
pub none_closed : (tid : ℕ) (entries : Intervals) → ChangedBy (closed_all [] tid) entries entries
none_closed tid entries = record { each = λ oid. same_option (interval_of entries oid) (closed_all [] tid oid) (λ e. refl) }

end_twice : (tid serial : ℕ) (end : Option ℕ) → end_at tid serial (end_at tid serial end) ≡ end_at tid serial end
end_twice tid serial (Some end) = refl
end_twice tid serial None = by_cases (nat_lt serial tid) refl
  where
    by_cases : (b : Bool) → nat_lt serial tid ≡ b → end_at tid serial (cond b (Some tid) None) ≡ cond b (Some tid) None
    by_cases true is = refl
    by_cases false is = rw is refl

-- an entry that is closed twice is closed
closed_twice : (tid : ℕ) (e : Interval) → closed_at tid (closed_at tid e) ≡ closed_at tid e
closed_twice tid e = ap (λ (o : Option ℕ). let i : Interval = record { serial = e.serial; bytes = e.bytes; end = o } in i) (end_twice tid e.serial e.end)

either_closed : (tid : ℕ) (e : Interval) (some one : Bool) → cond one (closed_at tid (cond some (closed_at tid e) e)) (cond some (closed_at tid e) e) ≡ cond (some || one) (closed_at tid e) e
either_closed tid e true true = closed_twice tid e
either_closed tid e true false = refl
either_closed tid e false true = refl
either_closed tid e false false = refl

one_more_entry : (oids : List ℕ) (i d tid oid : ℕ) (e : Interval) → i < length oids → closed_one (get_or oids i d) tid oid (closed_all (take i oids) tid oid e) ≡ closed_all (take (i + 1) oids) tid oid e
one_more_entry oids i d tid oid e lt =
    either_closed tid e (is_one_of (take i oids) oid) (oid == get_or oids i d)
    ∙ ap (λ (b : Bool). cond b (closed_at tid e) e) (sym (list_any_more (λ o. oid == o) oids i d lt))

one_more_option : (oids : List ℕ) (i d tid oid : ℕ) (o : Option Interval) → i < length oids
    → option_map (closed_one (get_or oids i d) tid oid) (option_map (closed_all (take i oids) tid oid) o) ≡ option_map (closed_all (take (i + 1) oids) tid oid) o
one_more_option oids i d tid oid None lt = refl
one_more_option oids i d tid oid (Some e) lt = ap (λ (x : Interval). Some x) (one_more_entry oids i d tid oid e lt)

-- one more object's entry is closed
pub one_more_closed : (oids : List ℕ) (i d tid : ℕ) (first old new : Intervals) → i < length oids → ChangedBy (closed_all (take i oids) tid) first old → HoldsClosed old (get_or oids i d) tid new
    → ChangedBy (closed_all (take (i + 1) oids) tid) first new
one_more_closed oids i d tid first old new lt before now = record {
  each = λ oid. now.each oid ∙ ap (option_map (closed_one (get_or oids i d) tid oid)) (before.each oid) ∙ one_more_option oids i d tid oid (interval_of first oid) lt;
}

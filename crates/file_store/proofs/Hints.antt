-- What a crash leaves of the index file, while calls are made.
use Rattle.std.proofs.Common.{◌≡◌, ◌≢◌, ◌⊎◌, ⊎_elim, inl, inr, ℕ, ◌+◌, ◌^◌, ◌<◌, ◌≤◌, zero, suc, Bool, true, false, List, [], ◌++◌, length, take, drop, map, set, Option, Some, None, refl, sym, ap, subst, ◌∙◌, arith}
use Rattle.std.proofs.lemmas.List.{append-nil, drop_all, length-take, take-append-drop, take-set-le, take-take}
use Rattle.std.specs.Prelude.{◌&&◌, nat_le}
use Rattle.std.specs.List.{last_or}
use Rattle.std.specs.Option.{option_map_or}
use Rattle.std.proofs.lemmas.Bool.{le-leb}
use Rattle.fs_index.specs.declared.place.Place.{Place}
use Rattle.zb_base.specs.Bytes.{AreBytes, AreBytes-take}
use Rattle.zb_volume.specs.declared.areas.Area.{Area}
use Rattle.zb_volume.specs.declared.areas.Area.TheVariants.{Main, Hint}
use Rattle.zb_volume.specs.Calls.{Event}
use Rattle.zb_volume.specs.Disk.{Disk, IsSettled, disk, seen, settled}
use Rattle.zb_volume.specs.Images.{CrashLeaves, CrashLeavesWith, MayLeave}
use Rattle.zb_volume.specs.Lasting.{settled_leaves, settled_left, settled_mix, settled_only}
use Rattle.zb_volume.specs.Moments.{Along, Leaves, LeavesOnly, StaysAs, here, more}
use Rattle.zb_volume.specs.Runs.{along_now, joined, leaves_less, weaker}
use Rattle.zb_volume.specs.States.{OthersStay}
use Rattle.zb_model.specs.declared.data.Transaction.{Transaction}
use Rattle.fs_records.specs.Blocks.{Begins, Reached}
use Rattle.fs_index.specs.Places.{Kept, placed_of}
use Rattle.fs_records.specs.Indexed.{places_of}
use Rattle.file_store.specs.Kept.{IsKept, cut_of}
use Rattle.file_store.specs.KeptLaws.{kept_stands, list_read}
use Rattle.file_store.specs.Staging.{StagedKept}
use Rattle.file_store.specs.EndLaws.{begins_within, read_within}
use Rattle.fs_records.specs.File.{IsReadAs, StandsFor, a_file, no_bytes}
use Rattle.fs_records.specs.Lists.{Answers, always}
use Rattle.fs_records.specs.Listed.{reached_in, reached_is, reading_in, reading_is, reading_stands}
use Rattle.fs_records.specs.WriteLaws.{begins_with, none_ends}
use Rattle.fs_recovery.specs.declared.opening.Opened.{Opened}
use Rattle.fs_recovery.specs.Numbers.{AreNumbersOf, NumbersKept}
use Rattle.fs_recovery.specs.Opens.{IsNoList, IsUpTo, MomentsOfOpening}
use Rattle.fs_append.specs.Appending.{HasFront}
use Rattle.fs_append.specs.Fronts.{front_kept}
use Rattle.fs_index_file.specs.Hints.{Entries, entries_in, head_of, is_hint}
use Rattle.fs_index_file.specs.Honest.{AreUpTo, IsHintOf, IsHonest, is_packed}
use Rattle.fs_index_file.specs.HonestLaws.{closed_is_none, kept_honest, newest_by_starts}
use Rattle.fs_index_file.specs.OrderLaws.{written_is_hint}
use Rattle.fs_index_file.specs.Writes.{IsClosed, IsOldOrClosed, IsOldOrHint}
use Rattle.file_store.specs.Hinting.{AreOfFront, HasHonestHint, IsHinted, IsHintedUpTo, IsOfFront, LeavesHonest, LeavesOfFront, StaysHonest}

-- ---- the two forms

front_begins : (main : List ℕ) (r : Reached) → Begins main r → IsReadAs (take r.end main) r None
front_begins main r begins =
    let whole : take r.end main ++ [] ≡ take r.end main = append-nil (take r.end main) in
    record {
      begins = subst (λ (b : List ℕ). Begins b r) whole (begins_with main r [] begins);
      ends = none_ends r.newest (drop r.end (take r.end main)) (ap length (drop_all r.end (take r.end main) (omega (arith, length-take r.end main))));
    }

-- the same, of what was reached
record AreThose (front : List ℕ) (e : Entries) (x : Reached) : Type 0 where
  reading : reading_in front ≡ Some (x, None)
  end_is : x.end ≡ e.end
  places : map (λ s. s.place) e.starts ≡ x.starts
  statuses : map is_packed e.starts ≡ map (λ t. t.packed) x.list
  records : (oid : ℕ) → placed_of oid e.records ≡ places_of oid x.known

from_those : (front : List ℕ) (e : Entries) → AreThose front e (reached_in front) → AreOfFront front e
from_those front e t = record { reading = t.reading; end_is = t.end_is; places = t.places; statuses = t.statuses; records = t.records }

pub of_front : (main : List ℕ) (e : Entries) → AreBytes main → length main < 2 ^ 63 → AreUpTo main e → AreOfFront (take e.end main) e
of_front main e fits short up =
    let r = up.reached in
    let stands : IsReadAs (take e.end main) r None = subst (λ (n : ℕ). IsReadAs (take n main) r None) up.end_is (front_begins main r up.begins) in
    let bytes = AreBytes-take e.end main fits in
    let long : length (take e.end main) < 2 ^ 64 = omega (arith, short, length-take e.end main) in
    let same : reached_in (take e.end main) ≡ r = reached_is (take e.end main) r None bytes long stands in
    let P : Reached → Type 0 = λ x. AreThose (take e.end main) e x in
    from_those (take e.end main) e (subst P (sym same) (record { reading = reading_is (take e.end main) r None bytes long stands; end_is = up.end_is; places = up.places; statuses = up.statuses; records = up.records }))

pub up_to_of : (main : List ℕ) (e : Entries) → AreOfFront (take e.end main) e → AreUpTo main e
up_to_of main e are =
    let front = take e.end main in
    let r = reached_in front in
    let begins = (reading_stands front r None are.reading).begins in
    let same : take r.end front ≡ front = ap (λ (n : ℕ). take n front) are.end_is ∙ take-take e.end e.end main (omega arith) in
    let whole : take r.end front ++ drop e.end main ≡ main = ap (λ (b : List ℕ). b ++ drop e.end main) same ∙ take-append-drop e.end main in
    record {
      reached = r;
      begins = subst (λ (b : List ℕ). Begins b r) whole (begins_with front r (drop e.end main) begins);
      end_is = are.end_is;
      places = are.places;
      statuses = are.statuses;
      records = are.records;
    }

pub of_honest : (main hint : List ℕ) → AreBytes main → length main < 2 ^ 63 → IsHonest main hint → IsOfFront main hint
of_honest main hint fits short honest is = of_front main (entries_in hint) fits short (honest is)

pub honest_of : (main hint : List ℕ) → IsOfFront main hint → IsHonest main hint
honest_of main hint is so = up_to_of main (entries_in hint) (is so)

pub leaves_honest : (log : List Event) → LeavesOfFront log → LeavesHonest log
leaves_honest log all main hint m h = honest_of main hint (all main hint m h)

pub no_call_honest : (log : List Event) → LeavesOfFront log → StaysHonest log log
no_call_honest log honest = here (leaves_honest log honest)

pub stays_honest : (old new : List Event) → Along LeavesOfFront old new → StaysHonest old new
stays_honest old new all = weaker LeavesOfFront LeavesHonest old new leaves_honest all

-- ---- runs of calls

-- two things that hold at every moment hold together
at_each : (P : List Event → Type 0) (old new : List Event) → Along P old new → (n : ℕ) → n + length old ≤ length new → P (drop n new)
at_each P old _ (here p) zero le = p
at_each P old _ (here p) (suc n) le = absurd (omega (arith, le))
at_each P old _ (more p rest) zero le = p
at_each P old _ (more p rest) (suc n) le = at_each P old _ rest n (omega (arith, le))

from_each : (P Q : List Event → Type 0) (old new : List Event) → Along Q old new → ((n : ℕ) → n + length old ≤ length new → P (drop n new)) → Along P old new
from_each P Q old _ (here q) all = here (all 0 (omega arith))
from_each P Q old _ (more q rest) all = more (all 0 (omega (arith, longer old _ rest))) (from_each P Q old _ rest (λ n le. all (suc n) (omega (arith, le))))
  where
    longer : (old log : List Event) → Along Q old log → length old ≤ length log
    longer old _ (here q) = omega arith
    longer old _ (more q rest) = omega (arith, longer old _ rest)

both : (P Q R : List Event → Type 0) (old new : List Event) → ((log : List Event) → P log → Q log → R log) → Along P old new → Along Q old new → Along R old new
both P Q R old new all ps qs = from_each R P old new ps (λ n le. all (drop n new) (at_each P old new ps n le) (at_each Q old new qs n le))

-- what a crash leaves of an area that is as it was, and of which nothing was pending
one_left : (old log : List Event) (a : Area) → IsSettled old a → disk log a ≡ disk old a → (c : List ℕ) → CrashLeaves log a c → c ≡ seen old a
one_left old log a is same c left = settled_only (seen old a) (λ x. x ≡ seen old a) refl c (subst (λ (d : Disk). MayLeave d.pending c) (same ∙ is) left)

pub left_now : (log : List Event) (a : Area) → IsSettled log a → CrashLeaves log a (seen log a)
left_now log a is = subst (λ (d : Disk). MayLeave d.pending (seen log a)) (sym is) (settled_left (seen log a))

-- ---- what leaves it so

-- where a front of Main stays up to which the index file goes
front_leaves : (old log : List Event) (end : ℕ) → IsSettled old Main → IsSettled old Hint → LeavesOfFront old → (is_hint (seen old Hint) ≡ true → (entries_in (seen old Hint)).end ≤ end)
    → Leaves Main (HasFront end (seen old Main)) log → disk log Hint ≡ disk old Hint → LeavesOfFront log
front_leaves old log end main_settled hint_settled honest within fronts stays main hint m h =
    let was = one_left old log Hint hint_settled stays hint h in
    subst (λ (b : List ℕ). IsOfFront main b) (sym was) (λ is.
    let e = entries_in (seen old Hint) in
    let le = within is in
    let same : take e.end main ≡ take e.end (seen old Main) = sym (take-take e.end end main le) ∙ ap (take e.end) (fronts main m) ∙ take-take e.end end (seen old Main) le in
    subst (λ (b : List ℕ). AreOfFront b e) (sym same) (honest (seen old Main) (seen old Hint) (left_now old Main main_settled) (left_now old Hint hint_settled) is))

pub keeps_front : (old new : List Event) (end : ℕ) → IsSettled old Main → IsHinted old false end → LeavesOnly Main (HasFront end (seen old Main)) old new → StaysAs Hint old new → Along LeavesOfFront old new
keeps_front old new end settled hinted fronts stays =
    both (Leaves Main (HasFront end (seen old Main))) (λ l. disk l Hint ≡ disk old Hint) LeavesOfFront old new (λ log f s. front_leaves old log end settled (hinted.settled refl) hinted.honest (hinted.within refl) f s) fronts stays

-- where neither changes
pub keeps_both : (old new : List Event) → LeavesOfFront old → StaysAs Main old new → StaysAs Hint old new → Along LeavesOfFront old new
keeps_both old new honest main hint =
    both (λ l. disk l Main ≡ disk old Main) (λ l. disk l Hint ≡ disk old Hint) LeavesOfFront old new
    (λ log m h image bytes left there. honest image bytes (subst (λ (d : Disk). MayLeave d.pending image) m left) (subst (λ (d : Disk). MayLeave d.pending bytes) h there)) main hint

-- where what a crash leaves of Hint is no index file
none_leaves : (log : List Event) → Leaves Hint (λ h. is_hint h ≡ true → ⊥) log → LeavesOfFront log
none_leaves log none main hint m h is = absurd (none hint h is)

pub no_hint : (old new : List Event) → LeavesOnly Hint (λ h. is_hint h ≡ true → ⊥) old new → Along LeavesOfFront old new
no_hint old new none = weaker (Leaves Hint (λ h. is_hint h ≡ true → ⊥)) LeavesOfFront old new none_leaves none

pub closed_stays : (old new : List Event) → IsClosed (seen old Hint) → IsSettled old Hint → StaysAs Hint old new → Along LeavesOfFront old new
closed_stays old new shut settled stays =
    no_hint old new (weaker (λ l. disk l Hint ≡ disk old Hint) (Leaves Hint (λ h. is_hint h ≡ true → ⊥)) old new
    (λ log same c left is. closed_is_none c (subst (λ (b : List ℕ). IsClosed b) (sym (one_left old log Hint settled same c left)) shut) is) stays)

-- while the index file is closed
pub closing : (old new : List Event) → LeavesOfFront old → IsSettled old Hint → StaysAs Main old new → LeavesOnly Hint (IsOldOrClosed (seen old Hint)) old new → Along LeavesOfFront old new
closing old new honest settled main leaves =
    both (λ l. disk l Main ≡ disk old Main) (Leaves Hint (IsOldOrClosed (seen old Hint))) LeavesOfFront old new
    (λ log m h image bytes left there is. ⊎_elim
    (λ was. subst (λ (b : List ℕ). IsOfFront image b) (sym was) (honest image (seen old Hint) (subst (λ (d : Disk). MayLeave d.pending image) m left) (left_now old Hint settled)) is)
    (λ shut. absurd (closed_is_none bytes shut is))
    (h bytes there))
    main leaves

-- ---- one run after another

pub joined_on : (old mid new : List Event) → Along LeavesOfFront old mid → Along LeavesOfFront mid new → Along LeavesOfFront old new
joined_on old mid new first rest = joined LeavesOfFront old mid new first rest

pub at_last : (old new : List Event) → Along LeavesOfFront old new → LeavesOfFront new
at_last old new all = along_now LeavesOfFront old new all

-- ---- what is kept behind a call

pub stays_settled : (old new : List Event) → StaysAs Hint old new → IsSettled old Hint → IsSettled new Hint
stays_settled old new stays is =
    let same = along_now (λ l. disk l Hint ≡ disk old Hint) old new stays in
    same ∙ is ∙ ap settled (sym (ap (λ (d : Disk). d.now) same))

pub seen_hint : (old new : List Event) → StaysAs Hint old new → seen new Hint ≡ seen old Hint
seen_hint old new stays = ap (λ (d : Disk). d.now) (along_now (λ l. disk l Hint ≡ disk old Hint) old new stays)

-- the store is whole, and its end isn't before the one that it had
pub hinted_on : (old new : List Event) (end next : ℕ) → IsHinted old false end → end ≤ next → Along LeavesOfFront old new → StaysAs Hint old new → IsHinted new false next
hinted_on old new end next hinted le honest stays = record {
  honest = at_last old new honest;
  settled = λ whole. stays_settled old new stays (hinted.settled refl);
  within = λ whole is. let was = seen_hint old new stays in
      subst (λ (h : List ℕ). (entries_in h).end ≤ next) (sym was) (omega (arith, le, hinted.within refl (subst (λ (h : List ℕ). is_hint h ≡ true) was is)));
}

-- it is broken
pub hinted_broken : (new : List Event) (end : ℕ) → LeavesOfFront new → IsHinted new true end
hinted_broken new end honest = record { honest = honest; settled = λ whole. absurd cc; within = λ whole. absurd cc }

-- it is broken, or Hint stays
pub hinted_or : (old new : List Event) (broken : Bool) (end : ℕ) → IsHinted old false end → Along LeavesOfFront old new → (broken ≡ false → StaysAs Hint old new) → IsHinted new broken end
hinted_or old new true end hinted honest stays = hinted_broken new end (at_last old new honest)
hinted_or old new false end hinted honest stays = hinted_on old new end end hinted (omega arith) honest (stays refl)

-- nothing was changed
pub hinted_still : (old new : List Event) (broken : Bool) (end : ℕ) → new ≡ old → IsHinted old broken end → IsHinted new broken end
hinted_still old new broken end same hinted = subst (λ (l : List Event). IsHinted l broken end) (sym same) hinted

pub hinted_as : (log : List Event) (broken : Bool) (end next : ℕ) → broken ≡ false → next ≡ end → IsHinted log broken end → IsHinted log false next
hinted_as log broken end next whole same hinted = subst (λ (b : Bool). IsHinted log b next) whole (subst (λ (n : ℕ). IsHinted log broken n) (sym same) hinted)

-- the index file is closed
pub hinted_closed : (log : List Event) (end : ℕ) → IsClosed (seen log Hint) → IsSettled log Hint → IsHinted log false end
hinted_closed log end shut settled = record {
  honest = at_last log log (closed_stays log log shut settled (here refl));
  settled = λ whole. settled;
  within = λ whole is. absurd (closed_is_none (seen log Hint) shut is);
}

-- as it was before a call of a store that isn't broken
pub whole_before : (log : List Event) (broken : Bool) (end : ℕ) → broken ≡ false → IsHinted log broken end → IsHinted log false end
whole_before log broken end whole hinted = hinted_as log broken end end whole refl hinted

-- a transaction is voted or aborted
pub fronts_stay : (old new : List Event) (end at : ℕ) → IsSettled old Main → IsHinted old false end → at ≡ end → (IsSettled old Main → LeavesOnly Main (HasFront at (seen old Main)) old new) → StaysAs Hint old new → Along LeavesOfFront old new
fronts_stay old new end at settled hinted same fronts stays = keeps_front old new end settled hinted (subst (λ (n : ℕ). LeavesOnly Main (HasFront n (seen old Main)) old new) same (fronts settled)) stays

-- or finished
pub finishing : (old new : List Event) (end at : ℕ) → IsSettled old Main → IsHinted old false end → at ≡ end → (IsSettled old Main → LeavesOnly Main (λ image. (image ≡ seen old Main) ⊎ (image ≡ set (seen old Main) (at + 16) 32)) old new) → StaysAs Hint old new → Along LeavesOfFront old new
finishing old new end at settled hinted same leaves stays =
    let main = seen old Main in
    fronts_stay old new end at settled hinted same
    (λ s. leaves_less Main (λ image. (image ≡ main) ⊎ (image ≡ set main (at + 16) 32)) (HasFront at main) old new
    (λ image. ⊎_elim (λ was. ap (take at) was) (λ is. ap (take at) is ∙ take-set-le at main (at + 16) 32 (omega arith))) (leaves s))
    stays

-- so it may be opened again
pub honest_again : (log : List Event) (broken : Bool) (end : ℕ) → IsSettled log Main → broken ≡ false → IsHinted log broken end → HasHonestHint log
honest_again log broken end settled whole hinted = record {
  settled = hinted.settled whole;
  honest = honest_of (seen log Main) (seen log Hint) (hinted.honest (seen log Main) (seen log Hint) (left_now log Main settled) (left_now log Hint (hinted.settled whole)));
}

-- ---- opening

-- before it
pub honest_now : (log : List Event) → AreBytes (seen log Main) → length (seen log Main) < 2 ^ 63 → IsSettled log Main → HasHonestHint log → LeavesOfFront log
honest_now log fits short settled has main hint m h =
    let main_is = one_left log log Main settled refl main m in
    let hint_is = one_left log log Hint has.settled refl hint h in
    subst (λ (b : List ℕ). IsOfFront b hint) (sym main_is) (subst (λ (b : List ℕ). IsOfFront (seen log Main) b) (sym hint_is) (of_honest (seen log Main) (seen log Hint) fits short has.honest))

-- the end of the index file isn't behind that of the file
pub end_within : (main hint : List ℕ) (s : Reached) (cut : Option ℕ) → IsReadAs main s cut → IsHonest main hint → is_hint hint ≡ true → (entries_in hint).end ≤ s.end
end_within main hint s cut stands honest is =
    let up = honest is in
    omega (arith, up.end_is, begins_within main up.reached s cut up.begins stands)

opened_fronts : (old new : List Event) (s : Reached) (cut : Option ℕ) → IsSettled old Main → s.end ≤ length (seen old Main) → IsReadAs (seen old Main) s cut → MomentsOfOpening old new → LeavesOnly Main (HasFront s.end (seen old Main)) old new
opened_fronts old new s cut settled long stands moments =
    let main = seen old Main in
    leaves_less Main (CrashLeavesWith old Main (take s.end main)) (HasFront s.end main) old new
    (settled_mix old Main (take s.end main) (HasFront s.end main) settled
    (λ c image. front_kept s.end main (take s.end main) c long (omega (arith, length-take s.end main, long)) (take-take s.end s.end main (omega arith)) image))
    (moments s cut stands)

pub opening : (old new : List Event) → AreBytes (seen old Main) → length (seen old Main) < 2 ^ 63 → seen old Main ≢ [] → IsSettled old Main → HasHonestHint old
    → (IsNoList (seen old Main) → new ≡ old) → MomentsOfOpening old new → OthersStay Main old new → Along LeavesOfFront old new
opening old new fits short some settled has harmed moments others = by_answer (always main fits (omega (arith, short)))
  where
    main : List ℕ
    main = seen old Main

    still : new ≡ old → Along LeavesOfFront old new
    still same = subst (λ (l : List Event). Along LeavesOfFront old l) (sym same) (here (honest_now old fits short settled has))

    by_list : (list : List Transaction) (cut : Option ℕ) → StandsFor main list cut → Along LeavesOfFront old new
    by_list list cut (no_bytes none l c) = absurd (some none)
    by_list list cut (a_file s stands l) =
        let long : s.end ≤ length main = read_within main s stands.begins in
        let hinted : IsHinted old false s.end = record { honest = honest_now old fits short settled has; settled = λ whole. has.settled; within = λ whole. end_within main (seen old Hint) s cut stands has.honest } in
        keeps_front old new s.end settled hinted (opened_fronts old new s cut settled long stands moments) (others Hint refl)

    by_answer : Answers main → Along LeavesOfFront old new
    by_answer (inl list) = by_list list.0 list.1 list.2
    by_answer (inr (inl none)) = still (harmed (inl none))
    by_answer (inr (inr damaged)) = still (harmed (inr damaged))

-- and behind it
pub opened_hint : (old new : List Event) (s : Reached) (cut : Option ℕ) (end : ℕ) → AreBytes (seen old Main) → length (seen old Main) < 2 ^ 63 → HasHonestHint old → IsReadAs (seen old Main) s cut → s.end ≡ end
    → seen new Main ≡ take end (seen old Main) → IsSettled new Main → OthersStay Main old new → IsHinted new false end
opened_hint old new s cut end fits short has stands end_is content settled others = record {
  honest = λ image bytes m h.
      let hint_is = one_left new new Hint hint_settled refl bytes h ∙ hint_same in
      let main_is = one_left new new Main settled refl image m ∙ content in
      subst (λ (b : List ℕ). IsOfFront b bytes) (sym main_is) (subst (λ (b : List ℕ). IsOfFront (take end main) b) (sym hint_is) here_front);
  settled = λ whole. hint_settled;
  within = λ whole is. subst (λ (h : List ℕ). (entries_in h).end ≤ end) (sym hint_same) (ends (subst (λ (h : List ℕ). is_hint h ≡ true) hint_same is));
}
  where
    main : List ℕ
    main = seen old Main

    stays : StaysAs Hint old new
    stays = others Hint refl

    hint_same : seen new Hint ≡ seen old Hint
    hint_same = seen_hint old new (others Hint refl)

    hint_settled : IsSettled new Hint
    hint_settled = stays_settled old new (others Hint refl) has.settled

    ends : is_hint (seen old Hint) ≡ true → (entries_in (seen old Hint)).end ≤ end
    ends is = omega (arith, end_is, end_within main (seen old Hint) s cut stands has.honest is)

    here_front : IsOfFront (take end main) (seen old Hint)
    here_front is =
        let e = entries_in (seen old Hint) in
        subst (λ (b : List ℕ). AreOfFront b e) (sym (take-take e.end end main (ends is))) (of_honest main (seen old Hint) fits short has.honest is)

-- ---- making a file

-- over no bytes no index file is honest
pub none_over_nothing : (main hint : List ℕ) → main ≡ [] → IsHonest main hint → is_hint hint ≡ true → ⊥
none_over_nothing main hint none honest is = let up = honest is in absurd (cc (up.begins.parts, none))

pub old_or_closed_none : (h : List ℕ) (bytes : List ℕ) → (is_hint h ≡ true → ⊥) → IsOldOrClosed h bytes → is_hint bytes ≡ true → ⊥
old_or_closed_none h bytes none (inl was) is = none (subst (λ (b : List ℕ). is_hint b ≡ true) was is)
old_or_closed_none h bytes none (inr shut) is = closed_is_none bytes shut is

-- nothing is done
pub still_honest : (old new : List Event) → new ≡ old → IsSettled old Main → HasHonestHint old → StaysHonest old new
still_honest old new same settled has =
    subst (λ (l : List Event). StaysHonest old l) (sym same) (here (λ main hint m h.
    subst (λ (b : List ℕ). IsHonest b hint) (sym (one_left old old Main settled refl main m)) (subst (λ (b : List ℕ). IsHonest (seen old Main) b) (sym (one_left old old Hint has.settled refl hint h)) has.honest)))

none_there : (log : List Event) → seen log Main ≡ [] → HasHonestHint log → is_hint (seen log Hint) ≡ true → ⊥
none_there log empty has = none_over_nothing (seen log Main) (seen log Hint) empty has.honest

pub still_none : (log : List Event) → seen log Main ≡ [] → HasHonestHint log → StaysHonest log log
still_none log empty has =
    stays_honest log log (no_hint log log (here (settled_leaves log Hint (λ h. is_hint h ≡ true → ⊥) has.settled (none_there log empty has))))

-- and while one is made
pub making_hint : (old new : List Event) → seen old Main ≡ [] → HasHonestHint old → LeavesOnly Hint (IsOldOrClosed (seen old Hint)) old new → StaysHonest old new
making_hint old new empty has leaves =
    stays_honest old new (no_hint old new (leaves_less Hint (IsOldOrClosed (seen old Hint)) (λ h. is_hint h ≡ true → ⊥) old new (λ c is. old_or_closed_none (seen old Hint) c (none_there old empty has) is) leaves))

-- ---- writing the index file

-- what is kept of the file, as what is known of Main up to the end
abbrev pub known_of : StagedKept → NumbersKept → Opened
known_of index numbers = record { index = index.kept; numbers = numbers; end = index.end; cut = None }

pub kept_up_to : (main : List ℕ) (index : StagedKept) (numbers : NumbersKept) → IsKept main index numbers → IsUpTo main (known_of index numbers)
kept_up_to main index numbers k =
    let s = reached_in main in
    let begins = (kept_stands main index numbers k).begins in
    record {
      indexed = record {
        reached = s;
        begins = begins;
        end_is = k.end_is;
        newest_is = newest_by_starts main s begins ∙ ap (λ (ps : List Place). option_map_or (λ (p : Place). p.serial) (last_or None ps) 0) (sym k.starts);
        index = record { records = k.records; transactions = k.starts };
      };
      counted = subst (λ (l : List Transaction). AreNumbersOf l numbers) (list_read main s (cut_of index) k.reading) k.counted;
    }

written_of_front : (main : List ℕ) (index : StagedKept) (numbers : NumbersKept) (bytes : List ℕ) → IsKept main index numbers → IsHintOf index.kept numbers.tallies index.end bytes → IsOfFront main bytes
written_of_front main index numbers bytes k is = of_honest main bytes k.fits k.short (kept_honest main (known_of index numbers) bytes (kept_up_to main index numbers k) is)

-- while it is written
pub writing : (old new : List Event) (index : StagedKept) (numbers : NumbersKept) → IsKept (seen old Main) index numbers → IsSettled old Main → IsHinted old false index.end → StaysAs Main old new
    → LeavesOnly Hint (IsOldOrHint (seen old Hint) index.kept numbers.tallies index.end) old new → Along LeavesOfFront old new
writing old new index numbers k settled hinted main leaves =
    both (λ l. disk l Main ≡ disk old Main) (Leaves Hint (IsOldOrHint (seen old Hint) index.kept numbers.tallies index.end)) LeavesOfFront old new
    (λ log m h image bytes left there. subst (λ (b : List ℕ). IsOfFront b bytes) (sym (one_left old log Main settled m image left)) (by_cases bytes (h bytes there)))
    main leaves
  where
    by_cases : (bytes : List ℕ) → IsOldOrHint (seen old Hint) index.kept numbers.tallies index.end bytes → IsOfFront (seen old Main) bytes
    by_cases bytes (inl was) = subst (λ (b : List ℕ). IsOfFront (seen old Main) b) (sym was) (hinted.honest (seen old Main) (seen old Hint) (left_now old Main settled) (left_now old Hint (hinted.settled refl)))
    by_cases bytes (inr (inl shut)) = λ is. absurd (closed_is_none bytes shut is)
    by_cases bytes (inr (inr is)) = written_of_front (seen old Main) index numbers bytes k is

-- and behind it
pub written_hint : (new : List Event) (index : StagedKept) (numbers : NumbersKept) → IsKept (seen new Main) index numbers → LeavesOfFront new → IsSettled new Hint → IsHintOf index.kept numbers.tallies index.end (seen new Hint) → IsHinted new false index.end
written_hint new index numbers k honest settled is =
    let w = written_is_hint (seen new Main) (known_of index numbers) (seen new Hint) (kept_up_to (seen new Main) index numbers k) is in
    record { honest = honest; settled = λ whole. settled; within = λ whole here. omega (arith, w.1) }

-- the same, of an index and an end that are those
pub written_for : (index : StagedKept) (numbers : NumbersKept) (kept : Kept) (end : ℕ) (bytes : List ℕ) → kept ≡ index.kept → end ≡ index.end → IsHintOf kept numbers.tallies end bytes → IsHintOf index.kept numbers.tallies index.end bytes
written_for index numbers kept end bytes k e is = subst (λ (x : Kept). IsHintOf x numbers.tallies index.end bytes) k (subst (λ (n : ℕ). IsHintOf kept numbers.tallies n bytes) e is)

pub leaves_for : (old new : List Event) (index : StagedKept) (numbers : NumbersKept) (kept : Kept) (end : ℕ) → kept ≡ index.kept → end ≡ index.end
    → LeavesOnly Hint (IsOldOrHint (seen old Hint) kept numbers.tallies end) old new → LeavesOnly Hint (IsOldOrHint (seen old Hint) index.kept numbers.tallies index.end) old new
leaves_for old new index numbers kept end k e leaves =
    subst (λ (x : Kept). LeavesOnly Hint (IsOldOrHint (seen old Hint) x numbers.tallies index.end) old new) k (subst (λ (n : ℕ). LeavesOnly Hint (IsOldOrHint (seen old Hint) kept numbers.tallies n) old new) e leaves)

head_end : (bytes : List ℕ) → (entries_in bytes).end ≡ (head_of bytes).end
unfolding entries_in
head_end bytes = refl

pub hinted_up_to : (new : List Event) (index : StagedKept) (numbers : NumbersKept) (end : ℕ) → IsKept (seen new Main) index numbers → IsHintOf index.kept numbers.tallies index.end (seen new Hint) → end ≡ index.end → IsHintedUpTo new end
hinted_up_to new index numbers end k is same =
    let main = seen new Main in
    let known = kept_up_to main index numbers k in
    let w = written_is_hint main (known_of index numbers) (seen new Hint) known is in
    let to : (entries_in (seen new Hint)).end ≡ end = w.1 ∙ sym same in
    let here : (reached_in main).end ≡ end = k.end_is ∙ sym same in
    let within : (head_of (seen new Hint)).end ≤ length main = omega (arith, head_end (seen new Hint), to, here, read_within main (reached_in main) (kept_stands main index numbers k).begins) in
    record {
      believed = ap (λ (b : Bool). b && nat_le (head_of (seen new Hint)).end (length main)) w.0 ∙ le-leb _ _ within;
      honest = kept_honest main (known_of index numbers) (seen new Hint) known is;
      goes_to = to;
      end_is = here;
    }

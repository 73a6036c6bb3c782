-- The greatest and the least image are images.
use Rattle.std.proofs.Common.{◌≡◌, inl, inr, ⊎_elim, ℕ, ◌-◌, ◌≤◌, List, [], ◌∷◌, length, get_or, drop, refl, sym, ◌∙◌, ap, subst, arith}
use Rattle.std.proofs.lemmas.Grind.{common_steps}
use Rattle.std.proofs.lemmas.List.{get_or-take, get_or_append_left, get_or-append_right, get_or-drop, length-append, length-take, length-drop}
use Rattle.std.proofs.lemmas.Bool.{cases_lt}
use Rattle.zb_volume.specs.declared.areas.Area.{Area}
use Rattle.zb_volume.specs.declared.areas.Area.TheVariants.{Main, Side, Hint}
use Rattle.zb_volume.specs.declared.replay.Replay.{Replay}
use Rattle.zb_volume.specs.Calls.{Call, WriteAt, SyncOf}
use Rattle.zb_volume.specs.Disk.{Disk, seen, written}
use Rattle.zb_volume.specs.Images.{MayRead, MayLeave, IsImage, least_length, greatest_length}
use Rattle.zb_volume.specs.Kept.{log_of}
use Rattle.zb_volume.specs.Lasting.{more_read}
use Rattle.zb_volume.specs.Replays.{IsReplay, greatest, least, contents_of}

least-le-greatest : (s : List ℕ) (since : List (List ℕ)) → least_length s since ≤ greatest_length s since
least-le-greatest s [] = omega arith
least-le-greatest s (x ∷ since) = omega (arith, least-le-greatest s since)

least-le : (s : List ℕ) (since : List (List ℕ)) → least_length s since ≤ length s
least-le s [] = omega arith
least-le s (x ∷ since) = omega (arith, least-le s since)

length-greatest : (s : List ℕ) (since : List (List ℕ)) → length (greatest s since) ≡ greatest_length s since
length-greatest s [] = refl
length-greatest s (x ∷ since) = omega (arith, length-append x (drop (length x) (greatest s since)), length-drop (length x) (greatest s since), length-greatest s since)

greatest_reads : (s : List ℕ) (since : List (List ℕ)) (k : ℕ) → MayRead s since k (get_or (greatest s since) k 0)
greatest_reads s [] k = inl refl
greatest_reads s (x ∷ since) k = ⊎_elim
    (λ within. inr (inl (within, get_or_append_left x (drop (length x) (greatest s since)) 0 k within)))
    (λ past. subst (λ (v : ℕ). MayRead s (x ∷ since) k v)
    (sym (get_or-append_right x (drop (length x) (greatest s since)) (length x) k 0 refl past ∙ get_or-drop (length x) (greatest s since) (k - length x) 0 ∙ ap (λ (n : ℕ). get_or (greatest s since) n 0) (omega arith)))
    (more_read s since x k _ (greatest_reads s since k)))
    (cases_lt k (length x))

pub greatest_possible : (s : List ℕ) (since : List (List ℕ)) → IsImage s since (greatest s since)
greatest_possible s since = record {
  no_shorter = omega (arith, length-greatest s since, least-le-greatest s since);
  no_longer = omega (arith, length-greatest s since);
  bytes = λ k h. greatest_reads s since k;
}

pub least_possible : (s : List ℕ) (since : List (List ℕ)) → IsImage s since (least s since)
least_possible s since =
    let size : length (least s since) ≡ least_length s since = omega (arith, length-take (least_length s since) s, least-le s since) in
    record {
      no_shorter = omega (arith, size);
      no_longer = omega (arith, size, least-le-greatest s since);
      bytes = λ k h. inl (get_or-take (least_length s since) s k 0 (omega (arith, size, h)));
    }

-- what is found of an area
pub found_possible : (r : Replay) (image : List ℕ) → IsImage r.synced.items (contents_of r.since.items) image → (d : Disk) → IsReplay r d → MayLeave d.pending image
found_possible r image possible d is = subst (λ (e : Disk). MayLeave e.pending image) (sym is) (inl possible)

written_all : (bytes : List ℕ) → written [] 0 bytes ≡ bytes
written_all bytes = grind (arith, common_steps)

-- a volume that holds an image of each area
pub held : (m s h : List ℕ) (done : List Call) → done ≡ SyncOf Hint ∷ WriteAt Hint 0 h ∷ SyncOf Side ∷ WriteAt Side 0 s ∷ SyncOf Main ∷ WriteAt Main 0 m ∷ []
    → (P : Area → List ℕ → Type 0) → P Main m → P Side s → P Hint h → (a : Area) → P a (seen (log_of done) a)
held m s h done is P main side hint Main = subst (λ (l : List Call). P Main (seen (log_of l) Main)) (sym is) (subst (P Main) (sym (written_all m)) main)
held m s h done is P main side hint Side = subst (λ (l : List Call). P Side (seen (log_of l) Side)) (sym is) (subst (P Side) (sym (written_all s)) side)
held m s h done is P main side hint Hint = subst (λ (l : List Call). P Hint (seen (log_of l) Hint)) (sym is) (subst (P Hint) (sym (written_all h)) hint)

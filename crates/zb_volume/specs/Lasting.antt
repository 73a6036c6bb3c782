-- What a crash leaves of an area while it is written, cut or replaced, for the proofs of those who make the calls.
use Rattle.std.proofs.Common.{◌≡◌, inl, inr, ⊎_elim, ℕ, ◌+◌, true, List, [], ◌∷◌, ◌++◌, take, drop, length, get_or, refl, sym, ap, subst, ◌∙◌, arith}
use Rattle.std.proofs.lemmas.List.{ext_get_or, take_all, drop_all, append-nil}
use Rattle.zb_volume.specs.declared.areas.Area.{Area}
use Rattle.zb_volume.specs.declared.areas.Area.TheVariants.{Main, Side, Hint}
use Rattle.zb_volume.specs.Calls.{Event, Wrote, Cut, Synced, same_area}
use Rattle.zb_volume.specs.Disk.{Pending, Disk, disk, settled, seen, written, with_content, IsSettled}
use Rattle.zb_volume.specs.Images.{MayRead, MayLeave, IsImage, CrashLeavesWith}
use Rattle.zb_volume.specs.Moments.{Leaves}

pub same_area-refl : (a : Area) → same_area a a ≡ true
same_area-refl Main = refl
same_area-refl Side = refl
same_area-refl Hint = refl

pub settled_image : (t c : List ℕ) → IsImage t [] c → c ≡ t
settled_image t c image =
    let same : length c ≡ length t = omega (arith, image.no_shorter, image.no_longer) in
    ext_get_or 0 c t same (λ k h. ⊎_elim (λ is. is) (λ none. absurd none) (image.bytes k h))

-- of bytes that nothing is pending over, a crash leaves these bytes
pub settled_only : (t : List ℕ) (Q : List ℕ → Type 0) → Q t → (c : List ℕ) → MayLeave (settled t).pending c → Q c
settled_only t Q q c left = ⊎_elim (λ image. subst Q (sym (settled_image t c image)) q) (λ none. absurd none) left

pub settled_left : (t : List ℕ) → MayLeave (settled t).pending t
settled_left t = inl (record { no_shorter = omega arith; no_longer = omega arith; bytes = λ k h. inl refl })

pub settled_leaves : (log : List Event) (a : Area) (Q : List ℕ → Type 0) → IsSettled log a → Q (seen log a) → Leaves a Q log
settled_leaves log a Q is q c left = settled_only (seen log a) Q q c (subst (λ (d : Disk). MayLeave d.pending c) is left)

pub more_read : (s : List ℕ) (since : List (List ℕ)) (w : List ℕ) (k v : ℕ) → MayRead s since k v → MayRead s (w ∷ since) k v
more_read s since w k v (inl is) = inl is
more_read s since w k v (inr had) = inr (inr had)

-- what a crash could leave it can leave once another content stands there
pub more_left : (ps : List Pending) (w c : List ℕ) → MayLeave ps c → MayLeave (with_content w ps) c
more_left [] w c left = left
more_left (p ∷ ps) w c (inl image) = inl (record {
  no_shorter = omega (arith, image.no_shorter);
  no_longer = omega (arith, image.no_longer);
  bytes = λ k h. more_read p.synced p.since w k (get_or c k 0) (image.bytes k h);
})
more_left (p ∷ ps) w c (inr left) = inr (more_left ps w c left)

-- and it can leave that content
pub new_left : (ps : List Pending) (w c : List ℕ) → MayLeave ps c → MayLeave (with_content w ps) w
new_left [] w c left = left
new_left (p ∷ ps) w c left = inl (record { no_shorter = omega arith; no_longer = omega arith; bytes = λ k h. inr (inl (h, refl)) })

-- over what is settled, it leaves a mix of the old bytes and the new ones
pub settled_mix : (log : List Event) (a : Area) (w : List ℕ) (Q : List ℕ → Type 0) → IsSettled log a → ((c : List ℕ) → IsImage (seen log a) (w ∷ []) c → Q c)
    → (c : List ℕ) → CrashLeavesWith log a w c → Q c
settled_mix log a w Q is mix c left = ⊎_elim
    (mix c)
    (λ none. absurd none)
    (subst (λ (d : Disk). MayLeave (with_content w d.pending) c) is left)

-- after a write, a cut and a sync of the area
pub wrote_leaves : (log : List Event) (a : Area) (at : ℕ) (bytes : List ℕ) → Leaves a (CrashLeavesWith log a (written (seen log a) at bytes)) (Wrote a at bytes ∷ log)
wrote_leaves log Main at bytes c left = left
wrote_leaves log Side at bytes c left = left
wrote_leaves log Hint at bytes c left = left

pub cut_leaves : (log : List Event) (a : Area) (n : ℕ) → Leaves a (CrashLeavesWith log a (take n (seen log a))) (Cut a n ∷ log)
cut_leaves log Main n c left = left
cut_leaves log Side n c left = left
cut_leaves log Hint n c left = left

pub synced_leaves : (log : List Event) (a : Area) (Q : List ℕ → Type 0) → Q (seen log a) → Leaves a Q (Synced a ∷ log)
synced_leaves log Main Q q = settled_only (seen log Main) Q q
synced_leaves log Side Q q = settled_only (seen log Side) Q q
synced_leaves log Hint Q q = settled_only (seen log Hint) Q q

-- what is written at the end stands behind
pub written_end : (old text : List ℕ) (end : ℕ) → length old ≡ end → written old end text ≡ old ++ text
written_end old text end is =
    ap (λ (xs : List ℕ). xs ++ text ++ drop (end + length text) old) (take_all end old (omega (arith, is)))
    ∙ ap (λ (xs : List ℕ). old ++ text ++ xs) (drop_all (end + length text) old (omega (arith, is)))
    ∙ append-nil (old ++ text)

pub seen-wrote : (log : List Event) (a : Area) (at : ℕ) (bytes : List ℕ) → seen (Wrote a at bytes ∷ log) a ≡ written (seen log a) at bytes
seen-wrote log Main at bytes = refl
seen-wrote log Side at bytes = refl
seen-wrote log Hint at bytes = refl

pub seen-cut : (log : List Event) (a : Area) (n : ℕ) → seen (Cut a n ∷ log) a ≡ take n (seen log a)
seen-cut log Main n = refl
seen-cut log Side n = refl
seen-cut log Hint n = refl

pub disk-synced : (log : List Event) (a : Area) → disk (Synced a ∷ log) a ≡ settled (seen log a)
disk-synced log Main = refl
disk-synced log Side = refl
disk-synced log Hint = refl

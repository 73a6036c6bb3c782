-- Frames that are sent one after another.
use Rattle.std.proofs.Common.{◌≡◌, ℕ, ◌+◌, ◌<◌, ◌≤◌, List, [], ◌∷◌, ◌++◌, Option, length, drop, get_or, ap, sym, ◌∙◌, refl, subst, append-nil, append_assoc}
use Rattle.std.proofs.lemmas.List.{drop_more, drop_all}
use Rattle.std.specs.Io.KnownBytes.{Appends}
use Rattle.std.specs.List.{concat}
use Rattle.zb_outside.specs.Written.{AppendsPrefix, AppendsBefore}
use Rattle.zb_outside.specs.WrittenLaws.{more_before, front_more, all_before}

-- what is left is the next frame and what is left behind it
left_is : (frames : List (List ℕ)) (i : ℕ) (frame : List ℕ) → i < length frames → frame ≡ get_or frames i frame → concat (drop i frames) ≡ frame ++ concat (drop (i + 1) frames)
left_is frames i frame less is = ap concat (drop_more frames i frame less) ∙ ap (λ (f : List ℕ). f ++ concat (drop (i + 1) frames)) (sym is)

pub more_sent : (a b c : Option (List ℕ)) (whole : List ℕ) (frames : List (List ℕ)) (i : ℕ) (frame : List ℕ) → i < length frames → frame ≡ get_or frames i frame
    → AppendsBefore a b whole (concat (drop i frames)) → Appends b c frame → AppendsBefore a c whole (concat (drop (i + 1) frames))
more_sent a b c whole frames i frame less is before now = more_before a b c whole frame (concat (drop (i + 1) frames)) (concat (drop i frames)) before (left_is frames i frame less is) now

pub front_sent : (a b c : Option (List ℕ)) (whole : List ℕ) (frames : List (List ℕ)) (i : ℕ) (frame bytes : List ℕ) → i < length frames → frame ≡ get_or frames i frame → bytes ≡ frame
    → AppendsBefore a b whole (concat (drop i frames)) → AppendsPrefix b c bytes → AppendsPrefix a c whole
front_sent a b c whole frames i frame bytes less is same before now =
    front_more a b c whole frame (concat (drop (i + 1) frames)) (concat (drop i frames)) before (left_is frames i frame less is) (subst (AppendsPrefix b c) same now)

pub all_sent : (a b : Option (List ℕ)) (whole : List ℕ) (frames : List (List ℕ)) (i : ℕ) → length frames ≤ i → AppendsBefore a b whole (concat (drop i frames)) → Appends a b whole
all_sent a b whole frames i less before =
    let none : concat (drop i frames) ≡ [] = ap concat (drop_all i frames less) in
    subst (Appends a b) (sym (append-nil before.front) ∙ ap (λ (l : List ℕ). before.front ++ l) (sym none) ∙ sym before.split) before.appended

-- Lines that are written one after another.
use Rattle.std.proofs.Common.{◌≡◌, ℕ, List, [], ◌∷◌, ◌++◌, Option, length, drop, get_or, sym, ap, subst, ◌∙◌, ◌+◌, ◌<◌, ◌≤◌}
use Rattle.std.specs.Io.KnownBytes.{Appends}
use Rattle.std.proofs.KnownBytes.{Appends-nil}
use Rattle.std.proofs.lemmas.List.{drop_more, drop_all}
use Rattle.zb_outside.specs.Written.{AppendsBefore, AppendsPrefix}
use Rattle.zb_outside.specs.WrittenLaws.{all_before, front_more, more_before, none_before}
use Rattle.script_runs.specs.Texts.{joined}

pub start_lines : (taken : Option (List ℕ)) (lines : List (List ℕ)) → AppendsBefore taken taken (joined lines) (joined (drop 0 lines))
start_lines taken lines = none_before taken (joined lines)

next_line : (lines : List (List ℕ)) (i : ℕ) (l : List ℕ) → i < length lines → l ≡ get_or lines i l → joined (drop i lines) ≡ l ++ joined (drop (i + 1) lines)
next_line lines i l within is = ap joined (drop_more lines i l within ∙ ap (λ (x : List ℕ). x ∷ drop (i + 1) lines) (sym is))

pub one_line : (taken between taken' : Option (List ℕ)) (lines : List (List ℕ)) (i : ℕ) (l : List ℕ) → i < length lines → l ≡ get_or lines i l
    → AppendsBefore taken between (joined lines) (joined (drop i lines)) → Appends between taken' l
    → AppendsBefore taken taken' (joined lines) (joined (drop (i + 1) lines))
one_line taken between taken' lines i l within is so_far wrote =
    more_before taken between taken' (joined lines) l (joined (drop (i + 1) lines)) (joined (drop i lines)) so_far (next_line lines i l within is) wrote

pub all_lines : (taken taken' : Option (List ℕ)) (lines : List (List ℕ)) (i : ℕ) → length lines ≤ i
    → AppendsBefore taken taken' (joined lines) (joined (drop i lines)) → Appends taken taken' (joined lines)
all_lines taken taken' lines i past so_far =
    all_before taken taken' taken' (joined lines) []
    (subst (λ (rest : List (List ℕ)). AppendsBefore taken taken' (joined lines) (joined rest)) (drop_all i lines past) so_far) (Appends-nil taken')

pub prefix_lines : (taken between taken' : Option (List ℕ)) (lines : List (List ℕ)) (i : ℕ) (l : List ℕ) → i < length lines → l ≡ get_or lines i l
    → AppendsBefore taken between (joined lines) (joined (drop i lines)) → AppendsPrefix between taken' l → AppendsPrefix taken taken' (joined lines)
prefix_lines taken between taken' lines i l within is so_far wrote =
    front_more taken between taken' (joined lines) l (joined (drop (i + 1) lines)) (joined (drop i lines)) so_far (next_line lines i l within is) wrote

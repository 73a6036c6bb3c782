-- The opening of a session, as its pass knows it.
use Rattle.std.proofs.Common.{◌≡◌, ℕ, zero, suc, List, [], ◌∷◌, ◌++◌, length, refl, ap, sym, ◌∙◌, subst, append_assoc}
use mathlib.Core.List.{IsPrefix}
use Rattle.hub_clock.specs.Rules.{IsLast, entries_of}
use Rattle.hub_shared.specs.Calls.{HasEntered, SeesOn}
use Rattle.hub_shared.specs.Seats.{Known}
use Rattle.zodb_core.specs.Entries.{session_of}
use Rattle.zodb_core.specs.History.{Entry, Opened}
use Rattle.zeo_serving_links.specs.Links.{IsAtOpening}

-- behind a session's last entry there is none of it
none_behind : (s : ℕ) (before : List Entry) (e : Entry) (behind : List Entry) → IsLast session_of s (before ++ e ∷ behind) (length before) → entries_of session_of s behind ≡ []
none_behind s [] e behind last = last.1
none_behind s (x ∷ before) e behind last = none_behind s before e behind last

pub at_opening : (number : ℕ) (seen : List Entry) (v w : Known) → HasEntered seen v → SeesOn v w → v.session ≡ number → IsAtOpening number w
at_opening number seen v w entered on is =
    let more = on.begins in
    let whole : w.seen ≡ entered.before ++ Opened number ∷ more.0 =
    sym more.1 ∙ (ap (λ xs. xs ++ more.0) (entered.sees ∙ entered.ends) ∙ (append_assoc entered.before (Opened v.session ∷ []) more.0 ∙ ap (λ n. entered.before ++ Opened n ∷ more.0) is)) in
    record {
      session_is = on.session ∙ is;
      before = entered.before;
      behind = more.0;
      seen_is = whole;
      last_is = on.last ∙ entered.last;
      none = none_behind number entered.before (Opened number) more.0
          (subst (λ (xs : List Entry). IsLast session_of number xs (length entered.before)) whole
          (subst (λ n. IsLast session_of number w.seen n) entered.last (subst (λ n. IsLast session_of n w.seen v.last) is on.own)));
    }

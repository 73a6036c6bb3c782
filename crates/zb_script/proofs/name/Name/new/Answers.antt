use Rattle.std.proofs.Common.{ℕ, ◌-◌, ◌≤◌, List, ◌++◌, length, drop, arith, sym, refl, ◌∙◌}
use Rattle.std.specs.Prelude.{replicate}
use Rattle.std.proofs.lemmas.Bool.{and_parts, leb-true}
use Rattle.std.proofs.lemmas.List.{drop-replicate, take_at, length-append, length-replicate}
use Rattle.zb_script.specs.Names.{IsName, IsPadded}
use Rattle.zb_script.proofs.name.Name.new.Goals as goal

padded_name : (bytes : List ℕ) → IsName bytes → IsPadded (bytes ++ drop (length bytes) (replicate 8 0)) (length bytes)
padded_name bytes named =
    let short : length bytes ≤ 8 = leb-true (length bytes) 8 (and_parts _ _ (and_parts _ _ (and_parts _ _ named).0).0).1 in
    let rest = drop-replicate {X = ℕ} (length bytes) 8 0 in
    let whole = take_at bytes (replicate (8 - length bytes) 0) (length bytes) refl in
    rw rest (record {
      full = omega (arith, length-append bytes (replicate (8 - length bytes) 0), length-replicate {A = ℕ} (8 - length bytes) 0);
      fits = short;
      zeros = rw whole refl;
      named = rw whole named;
    })

pub invariant_of-result : goal.invariant_of-result
invariant_of-result c = rw c.copy_from_slice.ensures.after (padded_name c.args.bytes.now (sym c.is_a_name.ensures ∙ c.if-not-is_a_name.false))

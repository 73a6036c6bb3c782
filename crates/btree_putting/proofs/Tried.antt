-- Puts that are tried.
use Rattle.std.proofs.Common.{◌≡◌, ℕ, Bool, true, false, List, [], ◌∷◌, ◌++◌, Option, Some, None, Result, Ok, Err, refl, sym, ◌∙◌, ap, subst, append_assoc, append-nil}
use Rattle.std.specs.Prelude.{◌&&◌, if◌then◌else◌, map, MatchOption, IfSome}
use Rattle.pickle_graph.specs.Graph.{Graph}
use Rattle.pickle_writing.specs.Spelling.{Spelled}
use Rattle.pickle_writing.specs.declared.error.WriteError.{WriteError}
use Rattle.btree_family.specs.Classes.{Class}
use Rattle.zb_record.specs.declared.error.RecordError.{RecordError}
use Rattle.zb_record.specs.declared.record.ObjectRecord.{ObjectRecord}
use Rattle.zb_record.specs.Records.{record_of, object_text}
use Rattle.btree_shapes.specs.declared.node.Node.{Node}
use Rattle.btree_shapes.specs.declared.reading.Entry.{Entry}
use Rattle.btree_shapes.specs.Classes.{class_named}
use Rattle.btree_shapes.specs.Nodes.{held_node, held_record, node_of}
use Rattle.btree_shapes.specs.Spaces.{IsRecordText, record_bytes, text_or_none}
use Rattle.btree_putting.specs.declared.puts.Put.{Put}
use Rattle.btree_putting.specs.declared.kept.Kept.{Kept}
use Rattle.btree_putting.specs.declared.trying.Written.{Written}
use Rattle.btree_putting.specs.Puts.{is_class_kept, is_copy, same_node, reads_as, text_reads_as, keeps, all_keep, AreSound, put_bytes}
use Rattle.btree_putting.specs.Storing.{IsSoundRecord}
use Rattle.btree_putting.specs.Kept.{AreKept, AreTried, HasRecordBack, HasTextBack, IsKept, IsTried, kept_put}
use Rattle.btree_putting.proofs.Keeping.{by_record, kept_bytes, kept_storable}

-- ---- a record that is read back

and_false : (b : Bool) → (b && false) ≡ false
and_false true = refl
and_false false = refl

pub other_class : (class : Class) (put : Put) (own state : Graph) → is_class_kept put.class (class_named own) ≡ false → reads_as class put (Ok (own, state)) ≡ false
other_class class put own state k = ap (λ b. b && is_copy put.node (node_of class own state)) k

pub no_copy : (class : Class) (put : Put) (own state : Graph) → node_of class own state ≡ None → reads_as class put (Ok (own, state)) ≡ false
no_copy class put own state n = ap (λ x. is_class_kept put.class (class_named own) && is_copy put.node x) n ∙ and_false (is_class_kept put.class (class_named own))

pub other_node : (class : Class) (put : Put) (own state : Graph) (node : Node) → node_of class own state ≡ Some node → same_node node put.node ≡ false → reads_as class put (Ok (own, state)) ≡ false
other_node class put own state node n s =
    ap (λ x. is_class_kept put.class (class_named own) && is_copy put.node x) n
    ∙ ap (λ b. is_class_kept put.class (class_named own) && b) s
    ∙ and_false (is_class_kept put.class (class_named own))

pub same_copy : (class : Class) (put : Put) (own state : Graph) (node : Node) → is_class_kept put.class (class_named own) ≡ true → node_of class own state ≡ Some node → same_node node put.node ≡ true → HasRecordBack class put (Ok (own, state)) (record { class = own; node = node })
same_copy class put own state node k n s = record {
  reads = ap (λ b. b && is_copy put.node (node_of class own state)) k ∙ ap (is_copy put.node) n ∙ s;
  holds = ap (held_node own) n;
}

pub unwritten_text : (class : Class) (put : Put) (spelled : Spelled) (e : WriteError) → spelled ≡ Err e → text_reads_as class put spelled ≡ false
unwritten_text class put spelled e s = ap (text_reads_as class put) s

pub unread_text : (class : Class) (put : Put) (spelled : Spelled) (bytes : List ℕ) → spelled ≡ Ok bytes → reads_as class put (record_of bytes) ≡ false → text_reads_as class put spelled ≡ false
unread_text class put spelled bytes s r = ap (text_reads_as class put) s ∙ r

pub text_back : (class : Class) (put : Put) (spelled : Spelled) (bytes : List ℕ) (entry : Entry) → spelled ≡ Ok bytes → HasRecordBack class put (record_of bytes) entry → HasTextBack class put spelled (record { bytes = bytes; entry = entry })
text_back class put spelled bytes entry s r = record { text = s; reads = ap (text_reads_as class put) s ∙ r.reads; holds = r.holds }

-- ---- what is found

pub some_case : {X : Type 0} (A : Type 0) (P : X → Type 0) (o : Option X) (x : X) → o ≡ Some x → MatchOption o A P → P x
some_case A P o x e m = subst (λ p. MatchOption p A P) e m

pub none_case : {X : Type 0} (A : Type 0) (P : X → Type 0) (o : Option X) → o ≡ None → MatchOption o A P → A
none_case A P o e m = subst (λ p. MatchOption p A P) e m

pub if_some : {X : Type 0} (P : X → Type 0) (o : Option X) (x : X) → o ≡ Some x → IfSome o P → P x
if_some P o x e m = subst (λ p. IfSome p P) e m

-- ---- a put that is tried

pub not_kept : (class leaf : Class) (put : Put) (object : ObjectRecord) → IsSoundRecord class leaf put object → text_reads_as class put (object_text object.class object.state) ≡ false → keeps class leaf put ≡ false
not_kept class leaf put object r n = by_record class leaf put object r.is_for ∙ n

pub is_kept : (class leaf : Class) (put : Put) (object : ObjectRecord) (written : Written) → IsSoundRecord class leaf put object → HasTextBack class put (object_text object.class object.state) written → IsTried class leaf put (record { put = put; bytes = written.bytes; entry = written.entry })
is_kept class leaf put object written r t =
    let k : keeps class leaf put ≡ true = by_record class leaf put object r.is_for ∙ t.reads in
    let same : written.bytes ≡ record_bytes object.class object.state = sym (ap text_or_none t.text) in
    record {
      put_is = refl;
      is_kept = record {
        keeps_so = k;
        sound = r.sound;
        bytes_are = same ∙ kept_bytes class leaf put object r.is_for;
        text = record { class = object.class; state = object.state; storable = kept_storable class leaf put object r.is_for k; bytes_are = same };
        holds = t.holds;
      };
    }

-- ---- puts one after another

puts_push : (kept : List Kept) (one : Kept) → map kept_put (kept ++ one ∷ []) ≡ map kept_put kept ++ one.put ∷ []
puts_push [] one = refl
puts_push (x ∷ xs) one = ap (λ zs. x.put ∷ zs) (puts_push xs one)

kept_push : (class leaf : Class) (kept : List Kept) (one : Kept) → AreKept class leaf kept → IsKept class leaf one → AreKept class leaf (kept ++ one ∷ [])
kept_push class leaf [] one are is = (is, tt)
kept_push class leaf (x ∷ xs) one are is = (are.0, kept_push class leaf xs one are.1 is)

kept_all : (class leaf : Class) (kept : List Kept) → AreKept class leaf kept → all_keep class leaf (map kept_put kept) ≡ true
kept_all class leaf [] are = refl
kept_all class leaf (x ∷ xs) are = let rest = kept_all class leaf xs are.1 in (λ i. if are.0.keeps_so i then rest i else false)

kept_sound : (class leaf : Class) (kept : List Kept) → AreKept class leaf kept → AreSound class leaf (map kept_put kept)
kept_sound class leaf [] are = tt
kept_sound class leaf (x ∷ xs) are = (are.0.sound, kept_sound class leaf xs are.1)

stop_if : (b rest : Bool) → rest ≡ false → (if b then rest else false) ≡ false
stop_if true rest n = n
stop_if false rest n = refl

stop_at : (class leaf : Class) (xs ys : List Put) (put : Put) → keeps class leaf put ≡ false → all_keep class leaf (xs ++ put ∷ ys) ≡ false
stop_at class leaf [] ys put n = ap (λ b. if b then all_keep class leaf ys else false) n
stop_at class leaf (x ∷ xs) ys put n = stop_if (keeps class leaf x) (all_keep class leaf (xs ++ put ∷ ys)) (stop_at class leaf xs ys put n)

-- some of the puts were tried
pub record TriedSo (class leaf : Class) (puts : List Put) (kept : List Kept) (left : List Put) : Type 0 where
  pub cut : puts ≡ map kept_put kept ++ left
  pub are : AreKept class leaf kept

pub tried_start : (class leaf : Class) (puts : List Put) → TriedSo class leaf puts [] puts
tried_start class leaf puts = record { cut = refl; are = tt }

pub tried_step : (class leaf : Class) (puts left left' : List Put) (kept kept' : List Kept) (put : Put) (one : Kept) → TriedSo class leaf puts kept left → left ≡ put ∷ left' → IsTried class leaf put one → kept' ≡ kept ++ one ∷ [] → TriedSo class leaf puts kept' left'
tried_step class leaf puts left left' kept kept' put one s l t k = record {
  cut =
      s.cut ∙ ap (λ xs. map kept_put kept ++ xs) l ∙ ap (λ p. map kept_put kept ++ p ∷ left') (sym t.put_is)
      ∙ sym (append_assoc (map kept_put kept) (one.put ∷ []) left')
      ∙ ap (λ xs. xs ++ left') (sym (ap (map kept_put) k ∙ puts_push kept one));
  are = subst (AreKept class leaf) (sym k) (kept_push class leaf kept one s.are t.is_kept);
}

pub tried_stop : (class leaf : Class) (puts left left' : List Put) (kept : List Kept) (put : Put) → TriedSo class leaf puts kept left → left ≡ put ∷ left' → keeps class leaf put ≡ false → all_keep class leaf puts ≡ false
tried_stop class leaf puts left left' kept put s l n =
    ap (all_keep class leaf) (s.cut ∙ ap (λ xs. map kept_put kept ++ xs) l) ∙ stop_at class leaf (map kept_put kept) left' put n

pub tried_end : (class leaf : Class) (puts left : List Put) (kept : List Kept) → TriedSo class leaf puts kept left → left ≡ [] → AreTried class leaf puts kept
tried_end class leaf puts left kept s l =
    let same : map kept_put kept ≡ puts = sym (s.cut ∙ ap (λ xs. map kept_put kept ++ xs) l ∙ append-nil (map kept_put kept)) in
    record {
      puts_are = same;
      are_kept = s.are;
      all_so = sym (ap (all_keep class leaf) same) ∙ kept_all class leaf kept s.are;
      sound = subst (AreSound class leaf) same (kept_sound class leaf kept s.are);
    }

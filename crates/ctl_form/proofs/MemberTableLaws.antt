-- What the table of members keeps where it is made, where a part is added, and where adding fails.
use Rattle.std.proofs.Common.{ℕ, ◌≡◌, ◌<◌, ◌-◌, cond, Option, Some, None, List, [], ◌∷◌, ◌++◌, arith, refl, sym, ◌∙◌, ap, subst, length, length-append, take}
use Rattle.std.specs.BTreeMap.{BTreeMap, get, is_at}
use Rattle.std.specs.Map.{lookup}
use Rattle.std.proofs.lemmas.List.{take_all, take-append-le}
use Rattle.std.proofs.lemmas.Map.Views.{tells_apart}
use Rattle.ctl_form.specs.declared.limits.TheConstants.{MAX_MEMBERS}
use Rattle.ctl_form.specs.Members.{part_at, IsBelow}
use Rattle.ctl_form.specs.MemberTable.{part_cmp, IsNumbering, IsIndex, IsTable}
use Rattle.ctl_form.specs.declared.part.Part.{Part}
use Rattle.ctl_form.proofs.ClosureLaws.{distinct_nil}
use Rattle.ctl_form.proofs.MemberLaws.{IsNew, numbering_push, index_push}
use Rattle.ctl_form.proofs.MemberPartOrder.{part_cmp_exact}

nil_of : {X : Type 0} (xs : List X) → length xs ≡ 0 → xs ≡ []
nil_of [] e = refl
nil_of (x ∷ xs) e = absurd (omega (arith, e))

numbering_nil : IsNumbering []
numbering_nil = record {
  few = omega arith;
  rising = λ n h. absurd (omega (arith, h));
  stands = λ n h. absurd (omega (arith, h));
  distinct = distinct_nil;
}

none_found : (n : ℕ) → ◌≡◌ {A = Option ℕ} None (Some n) → ⊥
none_found n e = cc

index_nil : (look : Part → Option ℕ) → ((p : Part) → look p ≡ None) → IsIndex [] look
index_nil look none = record {
  found = λ n h. absurd (omega (arith, h));
  within = λ p n e. absurd (none_found n (sym (none p) ∙ e));
  only = λ p n e. absurd (none_found n (sym (none p) ∙ e));
}

-- the table with no member
pub table_nil : (parts : List Part) (numbers : BTreeMap Part ℕ) → parts ≡ [] → length numbers.entries ≡ 0 → IsTable parts numbers
table_nil parts numbers e none =
    let look : Part → Option ℕ = get part_cmp numbers in
    let empty : (p : Part) → look p ≡ None = λ p. ap (lookup (is_at (part_cmp p))) (nil_of numbers.entries none) in
    record {
      numbering = subst IsNumbering (sym e) numbering_nil;
      index = subst (λ l. IsIndex l look) (sym e) (index_nil look empty);
    }

-- the table with one more part
pub table_push : (parts parts' : List Part) (p : Part) (numbers numbers' : BTreeMap Part ℕ) (n : ℕ) → IsTable parts numbers → IsNew parts p → IsBelow (length parts) p → length parts < MAX_MEMBERS → n ≡ length parts
    → ((q : Part) → get part_cmp numbers' q ≡ cond (is_at (part_cmp p) q) (Some n) (get part_cmp numbers q)) → get part_cmp numbers' p ≡ Some n → parts' ≡ parts ++ p ∷ [] → IsTable parts' numbers'
table_push parts parts' p numbers numbers' n t new below room at_end updates here e =
    let look : Part → Option ℕ = get part_cmp numbers in
    let look' : Part → Option ℕ = get part_cmp numbers' in
    let updates' : (q : Part) → look' q ≡ cond (is_at (part_cmp p) q) (Some (length parts)) (look q) = λ q. subst (λ (k : ℕ). look' q ≡ cond (is_at (part_cmp p) q) (Some k) (look q)) at_end (updates q) in
    let here' : look' p ≡ Some (length parts) = subst (λ (k : ℕ). look' p ≡ Some k) at_end here in
    record {
      numbering = subst IsNumbering (sym e) (numbering_push parts p t.numbering below new room);
      index = subst (λ l. IsIndex l look') (sym e) (index_push parts p look look' (is_at (part_cmp p)) t.index new (λ q h. tells_apart part_cmp_exact p q h) updates' here');
    }

-- the same table
pub table_same : (parts parts' : List Part) (numbers numbers' : BTreeMap Part ℕ) → IsTable parts numbers → parts' ≡ parts → numbers'.entries ≡ numbers.entries → IsTable parts' numbers'
table_same parts parts' numbers numbers' t e same =
    let look : Part → Option ℕ = get part_cmp numbers in
    let look' : Part → Option ℕ = get part_cmp numbers' in
    let alike : (p : Part) → look' p ≡ look p = λ p. ap (lookup (is_at (part_cmp p))) same in
    record {
      numbering = subst IsNumbering (sym e) t.numbering;
      index = subst (λ l. IsIndex l look') (sym e) (record {
        found = λ n h. alike (part_at parts n) ∙ t.index.found n h;
        within = λ q n k. t.index.within q n (sym (alike q) ∙ k);
        only = λ q n k. t.index.only q n (sym (alike q) ∙ k);
      });
    }

-- a part that was pushed and popped
pub popped_back : (parts pushed popped : List Part) (p : Part) (n : ℕ) → pushed ≡ parts ++ p ∷ [] → n ≡ length pushed → popped ≡ take (n - 1) pushed → popped ≡ parts
popped_back parts pushed popped p n e long rest =
    let at_end : n - 1 ≡ length parts = omega (arith, long, ap length e, length-append parts (p ∷ [])) in
    rest ∙ ap (λ (k : ℕ). take k pushed) at_end ∙ ap (take (length parts)) e ∙ take-append-le (length parts) parts (p ∷ []) (omega arith) ∙ take_all (length parts) parts (omega arith)

-- Words say one thing at most.
use Rattle.std.proofs.Common.{ℕ, ◌≡◌, ◌≢◌, All, List, [], ◌∷◌, ◌++◌, refl, sym, ap, ◌∙◌, codes, decimal, map, Bool, ◌↔◌, IsTrue, length, length-append, arith}
use Rattle.std.proofs.lemmas.Fmt.{decimal_injective}
use Rattle.std.proofs.lemmas.List.{append_cancel_right}
use Rattle.std.proofs.lemmas.List.Elements.{All-head, All-tail}
use Rattle.pair_structure.specs.declared.side.Side.{Side}
use Rattle.pair_structure.specs.declared.side.Side.TheVariants.{A, B}
use Rattle.strict_text.specs.Words.{words_of}
use Rattle.strict_text.specs.Spaced.{spaced}
use Rattle.strict_text.proofs.WordLaws.{one_line}
use Rattle.certificate_text.specs.Item.{NamedLabel, Said, head_line, star_line, member_line, end_line, done_line, side_text, label_text, words_for, IsShort, IsSpelled, Says}

head_same : (a b : List ℕ) (x y : List (List ℕ)) → a ∷ x ≡ b ∷ y → a ≡ b
head_same a b x y e = cc

tail_same : (a b : List ℕ) (x y : List (List ℕ)) → a ∷ x ≡ b ∷ y → x ≡ y
tail_same a b x y e = cc

rest_same : (a b : ℕ) (x y : List ℕ) → a ∷ x ≡ b ∷ y → x ≡ y
rest_same a b x y e = cc

-- texts that end in two bytes each have the same last byte
last_same : (n m : List ℕ) (c x d y : ℕ) → n ++ c ∷ x ∷ [] ≡ m ++ d ∷ y ∷ [] → x ≡ y
last_same [] [] c x d y e = cc
last_same [] (b ∷ m) c x d y e = let h : 2 ≡ length ((b ∷ m) ++ d ∷ y ∷ []) = ap length e in let k = length-append (b ∷ m) (d ∷ y ∷ []) in absurd (omega (arith, h, k))
last_same (a ∷ n) [] c x d y e = let h : length ((a ∷ n) ++ c ∷ x ∷ []) ≡ 2 = ap length e in let k = length-append (a ∷ n) (c ∷ x ∷ []) in absurd (omega (arith, h, k))
last_same (a ∷ n) (b ∷ m) c x d y e = last_same n m c x d y (rest_same a b (n ++ c ∷ x ∷ []) (m ++ d ∷ y ∷ []) e)

differ : (m n : ℕ) → m ≡ n → m ≢ n → ⊥
differ m n e apart = apart e

named_once : (n m : List ℕ) (s t : Side) → n ++ side_text s ≡ m ++ side_text t → ◌≡◌ {A = NamedLabel} (n, s) (m, t)
named_once n m A A e = ap (λ (k : List ℕ). (k, A)) (append_cancel_right n m (codes ".a") e)
named_once n m B B e = ap (λ (k : List ℕ). (k, B)) (append_cancel_right n m (codes ".b") e)
named_once n m A B e = absurd (differ 97 98 (last_same n m 46 97 46 98 e) (omega arith))
named_once n m B A e = absurd (differ 98 97 (last_same n m 46 98 46 97 e) (omega arith))

-- a word is the text of one label at most
pub label_once : (l m : NamedLabel) → label_text l ≡ label_text m → l ≡ m
label_once l m e = named_once l.0 m.0 l.1 m.1 e

some_none : (a : List ℕ) (x : List (List ℕ)) → a ∷ x ≡ [] → ⊥
some_none a x e = cc

none_some : (a : List ℕ) (x : List (List ℕ)) → [] ≡ a ∷ x → ⊥
none_some a x e = cc

both_same : {X : Type 0} (x y : X) (xs ys : List X) → x ≡ y → xs ≡ ys → x ∷ xs ≡ y ∷ ys
both_same x y xs ys e f = cc

pub labels_once : (ls ms : List NamedLabel) → map label_text ls ≡ map label_text ms → ls ≡ ms
labels_once [] [] e = refl
labels_once [] (m ∷ ms) e = absurd (none_some (label_text m) (map label_text ms) e)
labels_once (l ∷ ls) [] e = absurd (some_none (label_text l) (map label_text ls) e)
labels_once (l ∷ ls) (m ∷ ms) e = both_same l m ls ms (label_once l m (head_same _ _ _ _ e)) (labels_once ls ms (tail_same _ _ _ _ e))

pub numbers_once : (ms ns : List ℕ) → All IsShort ms → All IsShort ns → map decimal ms ≡ map decimal ns → ms ≡ ns
numbers_once [] [] p q e = refl
numbers_once [] (n ∷ ns) p q e = absurd (none_some (decimal n) (map decimal ns) e)
numbers_once (m ∷ ms) [] p q e = absurd (some_none (decimal m) (map decimal ms) e)
numbers_once (m ∷ ms) (n ∷ ns) p q e = both_same m n ms ns (decimal_injective m n (All-head IsShort m ms p) (All-head IsShort n ns q) (head_same _ _ _ _ e)) (numbers_once ms ns (All-tail IsShort m ms p) (All-tail IsShort n ns q) (tail_same _ _ _ _ e))

star_once : (r s : List ℕ) (ls ms : List NamedLabel) → words_for (star_line r ls) ≡ words_for (star_line s ms) → star_line r ls ≡ star_line s ms
star_once r s ls ms e =
    let behind = tail_same _ _ _ _ e in
    let role : r ≡ s = head_same _ _ _ _ behind in
    let labels = labels_once ls ms (tail_same _ _ _ _ behind) in
    cc

-- words say one thing at most
pub says_once : (words : List (List ℕ)) (x y : Said) → Says words x → Says words y → x ≡ y
says_once words x y p q = once x y (sym p.words_are ∙ q.words_are) p.spelled q.spelled
  where
    once : (x y : Said) → words_for x ≡ words_for y → IsSpelled x → IsSpelled y → x ≡ y
    once head_line head_line e p q = refl
    once (star_line r ls) (star_line s ms) e p q = star_once r s ls ms e
    once (member_line ms) (member_line ns) e p q = ap member_line (numbers_once ms ns p q (tail_same _ _ _ _ e))
    once end_line end_line e p q = refl
    once done_line done_line e p q = refl
    once head_line (star_line r ls) e p q = cc
    once head_line (member_line ns) e p q = cc
    once head_line end_line e p q = cc
    once head_line done_line e p q = cc
    once (star_line r ls) head_line e p q = cc
    once (star_line r ls) (member_line ns) e p q = cc
    once (star_line r ls) end_line e p q = cc
    once (star_line r ls) done_line e p q = cc
    once (member_line ms) head_line e p q = cc
    once (member_line ms) (star_line r ls) e p q = cc
    once (member_line ms) end_line e p q = cc
    once (member_line ms) done_line e p q = cc
    once end_line head_line e p q = cc
    once end_line (star_line r ls) e p q = cc
    once end_line (member_line ns) e p q = cc
    once end_line done_line e p q = cc
    once done_line head_line e p q = cc
    once done_line (star_line r ls) e p q = cc
    once done_line (member_line ns) e p q = cc
    once done_line end_line e p q = cc

-- the line that has the words of the head
pub head_words : (line : List ℕ) (t : Bool) → (IsTrue t ↔ (line ≡ codes "certificate 1")) → IsTrue t ↔ (words_of line ≡ words_for head_line)
head_words line t test = (λ yes. rw (test.0 yes) refl, λ e. test.1 (sym (one_line line) ∙ ap spaced e))

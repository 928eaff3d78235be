-- Labels that words write, one more at a time.
use Rattle.std.proofs.Common.{ℕ, ◌≡◌, List, [], ◌∷◌, ◌++◌, All, codes, length, map, sym, ap, ◌∙◌, subst, arith}
use Rattle.std.proofs.lemmas.List.{length-map, map-append}
use Rattle.std.proofs.lemmas.List.Elements.{All-push}
use Rattle.pair_structure.specs.Name.{IsName}
use Rattle.strict_text.specs.Words.{words_of}
use Rattle.strict_text.proofs.WordLaws.{words_some}
use Rattle.certificate_text.specs.Item.{IsSpelledLabel, NamedLabel, Says, label_text, star_line}
use Rattle.certificate_text.specs.declared.item.Label.{Label}
use Rattle.certificate_text.specs.inside.Saying.{AreLabels, named, names_of}
use Rattle.certificate_text.proofs.WordLists.{more_words}

names_push : (labels pushed : List Label) (label : Label) → pushed ≡ labels ++ label ∷ [] → names_of pushed ≡ names_of labels ++ named label ∷ []
names_push labels pushed label e = ap names_of e ∙ map-append named labels (label ∷ [])

pub labels_more : (words behind rest : List (List ℕ)) (labels pushed : List Label) (label : Label) (word : List ℕ) → words ≡ map label_text (names_of labels) ++ behind → behind ≡ word ∷ rest → word ≡ label_text (named label) → pushed ≡ labels ++ label ∷ []
    → words ≡ map label_text (names_of pushed) ++ rest
labels_more words behind rest labels pushed label word e cut is push =
    more_words label_text (names_of labels) (named label) words behind rest word e cut is ∙ ap (λ ls. map label_text ls ++ rest) (sym (names_push labels pushed label push))

pub spelled_more : (labels pushed : List Label) (label : Label) → All IsSpelledLabel (names_of labels) → IsSpelledLabel (named label) → pushed ≡ labels ++ label ∷ [] → All IsSpelledLabel (names_of pushed)
spelled_more labels pushed label all one push = subst (All IsSpelledLabel) (sym (names_push labels pushed label push)) (All-push IsSpelledLabel (names_of labels) (named label) all one)

-- a role and labels behind the word of a star
pub star_says : (role rest behind : List ℕ) (labels : List NamedLabel) → words_of rest ≡ role ∷ words_of behind → IsName role → AreLabels (words_of behind) labels → Says (codes "star" ∷ words_of rest) (star_line role labels)
star_says role rest behind labels cut name are =
    let some = words_some behind in
    let lengths : length (words_of behind) ≡ length (map label_text labels) = ap length are.words_are in
    record {
      words_are = ap (λ words. codes "star" ∷ words) (cut ∙ ap (λ words. role ∷ words) are.words_are);
      spelled = record {
        name = name;
        some = omega (arith, some, lengths, length-map labels label_text);
        few = are.few;
        kinds = are.spelled;
      };
    }

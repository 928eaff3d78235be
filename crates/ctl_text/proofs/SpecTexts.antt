-- The text of a specification is that of its parts, one after another.
use Rattle.std.proofs.Common.{ℕ, ◌≡◌, List, [], ◌∷◌, ◌++◌, codes, map, refl, ap, ◌∙◌, append_assoc}
use Rattle.std.proofs.lemmas.Grind.{flat_map-append}
use Rattle.std.specs.List.{flat_map}
use Rattle.ctl_text.specs.Item.{done_line}
use Rattle.ctl_text.specs.SpecText.{line_for, ended, role_lines, kind_lines, process_text, edge_text, spec_text, role_text, kind_text}
use Rattle.ctl_text.specs.Value.{SpecParts}

abbrev texts : List (List ℕ) → List ℕ
texts lines = flat_map ended lines

-- the texts of each one's lines
texts_each : {X : Type 0} (f : X → List (List ℕ)) (xs : List X) → flat_map ended (flat_map f xs) ≡ flat_map (λ x. flat_map ended (f x)) xs
texts_each f [] = refl
texts_each f (x ∷ xs) = flat_map-append ended (f x) (flat_map f xs) ∙ ap (λ t. texts (f x) ++ t) (texts_each f xs)

text_parts : (v : SpecParts) → spec_text v ≡ codes "pairs 2\n" ++ (flat_map role_text v.roles ++ (flat_map (kind_text v.roles) v.kinds ++ (texts (map (process_text v.roles) v.processes) ++ (texts (map (edge_text v.processes v.kinds) v.edges) ++ codes "done\n"))))
text_parts v =
    let R = flat_map role_lines v.roles in let K = flat_map (kind_lines v.roles) v.kinds in
    let P = map (process_text v.roles) v.processes in let E = map (edge_text v.processes v.kinds) v.edges in
    let D : List (List ℕ) = line_for done_line ∷ [] in
    let e = flat_map-append ended E D in
    let p = flat_map-append ended P (E ++ D) ∙ ap (λ t. texts P ++ t) e in
    let k = flat_map-append ended K (P ++ (E ++ D)) ∙ ap (λ t. texts K ++ t) p ∙ ap (λ t. t ++ (texts P ++ (texts E ++ texts D))) (texts_each (kind_lines v.roles) v.kinds) in
    let r = flat_map-append ended R (K ++ (P ++ (E ++ D))) ∙ ap (λ t. texts R ++ t) k ∙ ap (λ t. t ++ (flat_map (kind_text v.roles) v.kinds ++ (texts P ++ (texts E ++ texts D)))) (texts_each role_lines v.roles) in
    ap (λ t. codes "pairs 2\n" ++ t) r

joined : (old H R K P E D : List ℕ) → (((((old ++ H) ++ R) ++ K) ++ P) ++ E) ++ D ≡ old ++ (H ++ (R ++ (K ++ (P ++ (E ++ D)))))
joined old H R K P E D = simp append_assoc

pub canonical_pieces : (v : SpecParts) (old a b c d e f : List ℕ) → a ≡ old ++ codes "pairs 2\n" → b ≡ a ++ flat_map role_text v.roles → c ≡ b ++ flat_map (kind_text v.roles) v.kinds → d ≡ c ++ texts (map (process_text v.roles) v.processes)
    → e ≡ d ++ texts (map (edge_text v.processes v.kinds) v.edges) → f ≡ e ++ codes "done\n" → f ≡ old ++ spec_text v
canonical_pieces v old a b c d e f ha hb hc hd he hf =
    rw (hf, he, hd, hc, hb, ha, text_parts v) (joined old (codes "pairs 2\n") (flat_map role_text v.roles) (flat_map (kind_text v.roles) v.kinds) (texts (map (process_text v.roles) v.processes)) (texts (map (edge_text v.processes v.kinds) v.edges)) (codes "done\n"))

-- One more edge, whose kind is drawn.
use Rattle.std.proofs.Common.{ℕ, suc, ◌≡◌, ◌<◌, List, [], ◌∷◌, ◌++◌, length, get_or, drop, drop-cons, append_assoc, sym, ◌∙◌, ap}
use Rattle.interconnection.specs.declared.parts.Edge.{Edge}
use Rattle.firing_crew.specs.Draws.{next_word}
use Rattle.big_system.specs.Systems.{edge_by, edges_from}

pub one_more : (word i : ℕ) (done all : List Edge) (pairs : List (ℕ × ℕ)) (d : ℕ × ℕ) → i < length pairs → done ++ edges_from word (drop i pairs) ≡ all
    → (done ++ edge_by (next_word word) (get_or pairs i d) ∷ []) ++ edges_from (next_word word) (drop (suc i) pairs) ≡ all
one_more word i done all pairs d lt so =
    let first : edges_from word (drop i pairs) ≡ edge_by (next_word word) (get_or pairs i d) ∷ edges_from (next_word word) (drop (suc i) pairs) = ap (edges_from word) (drop-cons pairs i d lt) in
    append_assoc done (edge_by (next_word word) (get_or pairs i d) ∷ []) (edges_from (next_word word) (drop (suc i) pairs)) ∙ sym (ap (λ (l : List Edge). done ++ l) first) ∙ so

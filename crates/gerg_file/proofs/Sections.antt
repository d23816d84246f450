-- The sections of a file, one after the other, from what each call gives.
use mathlib.Core.Path.{◌≡◌, sym, ap, ◌∙◌}
use mathlib.Core.List.{List}
use Prim.Native.Nat.{ℕ}
use Rattle.std.specs.Prelude.{Ok, Err}
use Rattle.gerg_refusals.specs.declared.Refusal.{Refusal}
use Rattle.gerg_refusals.specs.Answer.{and_then}
use Rattle.gerg_file.specs.File.{Walk, chain, component_step, term_row, pair_row, function_step, departure_row, place, functions, at_end, after_revision, after_components, after_terms, after_pairs, function_count, after_functions, after_departures, verdict, file_of}

module _ (s : List ℕ) {h co te pa fu de en : Walk} {pl pl2 n : ℕ}
    (eh : h ≡ after_revision s)
    (ec : co ≡ and_then h (chain (component_step s) 21 1))
    (et : te ≡ and_then co (chain (term_row s) 21 1))
    (ep : pa ≡ and_then te (chain (pair_row s) 21 1))
    (e1 : pl ≡ place pa)
    (en' : n ≡ functions s 10 pl)
    (ef : fu ≡ and_then pa (chain (function_step s) n 1))
    (e2 : pl2 ≡ place pa)
    (ed : de ≡ and_then fu (chain (departure_row s pl2) n 1))
    (ee : en ≡ and_then de (at_end s))
  where
    components : co ≡ after_components s
    unfolding after_components
    components = rw (ec, eh)

    terms' : te ≡ after_terms s
    unfolding after_terms
    terms' = rw (et, components)

    pairs : pa ≡ after_pairs s
    unfolding after_pairs
    pairs = rw (ep, terms')

    count : n ≡ function_count s
    unfolding function_count
    count = rw (en', e1, pairs)

    functions' : fu ≡ after_functions s
    unfolding after_functions
    functions' = rw (ef, count, pairs)

    departures : de ≡ after_departures s
    unfolding after_departures
    departures = rw (ed, e2, count, functions', pairs)

    end : en ≡ and_then (after_departures s) (at_end s)
    end = rw (ee, departures)

    pub refused : {r : Refusal} → en ≡ Err r → Err r ≡ file_of s
    unfolding file_of verdict
    refused q = ap (verdict s) (sym q ∙ end)

    pub accepted : {at p3 p4 p5 p6 : ℕ} → en ≡ Ok at → p3 ≡ place co → p4 ≡ place te → p5 ≡ place pa → p6 ≡ place fu
        → Ok (record { terms = p3; pairs = p4; functions = p5; count = n; departures = p6; length = at }) ≡ file_of s
    unfolding file_of verdict
    accepted q a b c d = rw (a, b, c, d, components, terms', pairs, functions', count) (ap (verdict s) (sym q ∙ end))

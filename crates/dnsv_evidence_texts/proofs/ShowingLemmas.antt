-- The text of the messages that are shown, line by line.
use Rattle.std.proofs.Common.{◌≡◌, ℕ, suc, ◌+◌, List, [], ◌∷◌, ◌++◌, length, drop, refl, sym, ap, ◌∙◌, arith, append_assoc, codes}
use Rattle.std.specs.Fmt.{decimal}
use Rattle.std.specs.List.{flat_map}
use Rattle.dnsv_message.specs.Message.{Contents, records_of}
use Rattle.dnsv_evidence_texts.specs.Showing.{hex_of_16, message_line, message_text, question_line, record_line, texts_from}

-- ---- texts one after another

-- two lists of numbered things, the second numbered on from the first
pub texts_from-append : {X : Type 0} (text : ℕ → X → List ℕ) (number : ℕ) (xs ys : List X)
    → texts_from text number (xs ++ ys) ≡ texts_from text number xs ++ texts_from text (number + length xs) ys
texts_from-append text number [] ys = ap (λ n. texts_from text n ys) (omega arith)
texts_from-append {X} text number (x ∷ xs) ys =
    let same : suc number + length xs ≡ number + length (x ∷ xs) = omega arith in
    ap (λ rest. text number x ++ rest) (texts_from-append text (suc number) xs ys)
    ∙ sym (append_assoc (text number x) (texts_from text (suc number) xs) (texts_from text (suc number + length xs) ys))
    ∙ ap (λ n. (text number x ++ texts_from text (suc number) xs) ++ texts_from text n ys) same

-- what was written and what is left are the whole
pub record Written {X : Type 0} (text : ℕ → X → List ℕ) (number : ℕ) (xs : List X) (done : ℕ) (before now : List ℕ) : Type 0 where
  pub whole : before ++ texts_from text number xs ≡ now ++ texts_from text (number + done) (drop done xs)

-- ---- a message

-- the records of the three sections, numbered on from one to the next
records_written : (m : Contents) → texts_from record_line 1 (records_of m)
    ≡ (texts_from record_line 1 m.answer ++ texts_from record_line (1 + length m.answer) m.authority)
    ++ texts_from record_line (1 + length (m.answer ++ m.authority)) m.additional
records_written m =
    texts_from-append record_line 1 (m.answer ++ m.authority) m.additional
    ∙ ap (λ front. front ++ texts_from record_line (1 + length (m.answer ++ m.authority)) m.additional) (texts_from-append record_line 1 m.answer m.authority)

regrouped : (start header questions answer authority additional : List ℕ)
    → ((((start ++ header) ++ questions) ++ answer) ++ authority) ++ additional ≡ start ++ ((header ++ questions) ++ ((answer ++ authority) ++ additional))
regrouped start header questions answer authority additional = simp append_assoc refl

-- the steps in which a message is written
pub message_written : (number : ℕ) (m : Contents) (start first second third fourth fifth : List ℕ) (a b c : ℕ)
    → first ≡ start ++ message_line number m → second ≡ first ++ flat_map question_line m.questions
    → third ≡ second ++ texts_from record_line a m.answer → fourth ≡ third ++ texts_from record_line b m.authority
    → fifth ≡ fourth ++ texts_from record_line c m.additional
    → a ≡ 1 → b ≡ 1 + length m.answer → c ≡ 1 + length (m.answer ++ m.authority)
    → fifth ≡ start ++ message_text number m
message_written number m start first second third fourth fifth a b c is_first is_second is_third is_fourth is_fifth is_a is_b is_c =
    rw (is_fifth, is_fourth, is_third, is_second, is_first, is_a, is_b, is_c, records_written m)
    (regrouped start (message_line number m) (flat_map question_line m.questions) (texts_from record_line 1 m.answer)
    (texts_from record_line (1 + length m.answer) m.authority) (texts_from record_line (1 + length (m.answer ++ m.authority)) m.additional))

-- the two steps in which a message's line is written
pub header_written : (number : ℕ) (m : Contents) (start first second : List ℕ)
    → first ≡ start ++ (codes "message " ++ (decimal number ++ (codes " " ++ (hex_of_16 m.id ++ (codes " " ++ hex_of_16 m.flags)))))
    → second ≡ first ++ (codes " " ++ (decimal (length m.questions) ++ (codes " " ++ (decimal (length m.answer) ++ (codes " " ++ (decimal (length m.authority)
    ++ (codes " " ++ (decimal (length m.additional) ++ codes "\n"))))))))
    → second ≡ start ++ message_line number m
header_written number m start first second is_first is_second =
    rw (is_second, is_first) (joined (decimal number) (hex_of_16 m.id) (hex_of_16 m.flags) (decimal (length m.questions)) (decimal (length m.answer)) (decimal (length m.authority)) (decimal (length m.additional)))
  where
    joined : (a b c d e f g : List ℕ)
        → (start ++ (codes "message " ++ (a ++ (codes " " ++ (b ++ (codes " " ++ c))))))
        ++ (codes " " ++ (d ++ (codes " " ++ (e ++ (codes " " ++ (f ++ (codes " " ++ (g ++ codes "\n"))))))))
        ≡ start ++ (codes "message " ++ a ++ codes " " ++ b ++ codes " " ++ c ++ codes " " ++ d ++ codes " " ++ e ++ codes " " ++ f ++ codes " " ++ g ++ codes "\n")
    joined a b c d e f g = simp append_assoc refl

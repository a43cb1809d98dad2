-- A stream of lines, byte for byte as it comes. An LF is the byte 10.
use Rattle.std.specs.Prelude.{ℕ, suc, ◌-◌, ◌≡◌, if◌then◌else◌, List, [], ◌∷◌, ◌++◌, ◌==◌, nat_le, length, take, drop}
use Rattle.line_input.specs.Held.{Kept, holds, line_in, kept}
use Rattle.lines.specs.Answers.{line_text}
use Rattle.stream.specs.declared.Fed.{Fed}

-- what some input leaves: the text that it has written, and what is held then
pub record After : Type 0 where
  pub text : List ℕ
  pub held : Kept

-- one byte: an LF has the line answered, and any other byte is held where there is room
unfoldable pub after_byte : Kept → ℕ → After
after_byte h b =
    if b == 10 then record { text = line_text (line_in h); held = holds h.bytes 0 }
    else record { text = []; held = kept h b }

-- text, and then what follows it
abbrev pub text_then : List ℕ → After → After
text_then text a = record { text = text ++ a.text; held = a.held }

-- the bytes of a block, one after the other
unfoldable pub after_bytes : Kept → List ℕ → After
after_bytes h [] = record { text = []; held = h }
after_bytes h (b ∷ bs) = text_then (after_byte h b).text (after_bytes (after_byte h b).held bs)

-- how many bytes of a block are taken at once: each before which room is left for any answer, 48 bytes
unfoldable pub taken : Kept → List ℕ → ℕ → ℕ
taken h [] room = 0
taken h (b ∷ bs) room = if nat_le 48 room then suc (taken (after_byte h b).held bs (room - length (after_byte h b).text)) else 0

-- what a call leaves that was fed a block, with h held before: the bytes that it took have gone through the stream, their
-- text stands at the start of out, and the other bytes of out are as they were
pub record Feeds (h : Kept) (block out : List ℕ) (r : Fed) (bytes new : List ℕ) : Type 0 where
  pub took : r.taken ≡ taken h block (length out)
  pub keeps : holds bytes r.held ≡ (after_bytes h (take r.taken block)).held
  pub wrote : r.wrote ≡ length (after_bytes h (take r.taken block)).text
  pub text : new ≡ (after_bytes h (take r.taken block)).text ++ drop r.wrote out

-- the answer to what is held when the input has ended, a last line that lacks its LF: where nothing is, there is no line
unfoldable pub last_text : Kept → List ℕ
last_text h = if h.count == 0 then [] else line_text (line_in h)

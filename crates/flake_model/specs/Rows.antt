-- Requests with what a store of one thread sends for them, one table entry for a whole input.
use Rattle.std.specs.Prelude.{ℕ, ◌==◌, if◌then◌else◌, List, [], ◌∷◌, ◌++◌, codes, map}
use Rattle.std.specs.List.{flat_map}
use Rattle.std.specs.FinMap as finite
use Rattle.flake_model.specs.Resp.{Words}
use Rattle.flake_model.specs.Command.{command_of}
use Rattle.flake_model.specs.Reply.{reply_text}
use Rattle.flake_model.specs.OneThread.{replies_on}

-- a byte in front of words: a space ends a word
abbrev pub with_word_byte : ℕ → Words → Words
with_word_byte byte [] = []
with_word_byte byte (word ∷ words) = if byte == 32 then [] ∷ word ∷ words else (byte ∷ word) ∷ words

-- the words between the spaces of a line
abbrev pub line_words : List ℕ → Words
line_words [] = [] ∷ []
line_words (byte ∷ bytes) = with_word_byte byte (line_words bytes)

pub record Row : Type 0 where
  -- a request a line
  pub lines : List (List ℕ)
  pub sent : List ℕ

abbrev pub row : List (List ℕ) → List ℕ → Row
row lines sent = record { lines = lines; sent = sent }

-- what is sent for requests, from the empty store on
abbrev pub replies_text : List Words → List ℕ
replies_text requests = flat_map reply_text (replies_on finite.empty (map command_of requests))

abbrev pub rows : List Row
rows =
    row (codes "SET a 1" ∷ codes "DEL a a" ∷ codes "SET b 1" ∷ codes "EXISTS b b" ∷ [])
    (codes "+OK\r\n:1\r\n+OK\r\n:2\r\n")
    ∷ row (codes "get a" ∷ codes "FLY" ∷ codes "SET a" ∷ codes "SET a b EX 9" ∷ codes "PING" ∷ codes "PING hi" ∷ [])
    (codes "$-1\r\n-ERR unknown command\r\n-ERR wrong number of arguments\r\n-ERR syntax error\r\n+PONG\r\n"
    ++ codes "$2\r\nhi\r\n")
    ∷ row (codes "SET a 1 NX" ∷ codes "SET a 2 NX" ∷ codes "SET a 3 XX GET" ∷ codes "SET b 4 XX" ∷ codes "SET b 5 GET"
    ∷ codes "SET a 6 nx get" ∷ codes "SET a 7 NX XX" ∷ [])
    (codes "+OK\r\n$-1\r\n$1\r\n1\r\n$-1\r\n$-1\r\n$1\r\n3\r\n-ERR syntax error\r\n")
    ∷ row (codes "SET k abcdef" ∷ codes "GETRANGE k 1 3" ∷ codes "GETRANGE k -3 -1" ∷ codes "GETRANGE k 4 99"
    ∷ codes "GETRANGE k 3 1" ∷ codes "GETRANGE x 0 -1" ∷ codes "STRLEN k" ∷ codes "STRLEN x" ∷ codes "GETRANGE k 0 01"
    ∷ [])
    (codes "+OK\r\n$3\r\nbcd\r\n$3\r\ndef\r\n$2\r\nef\r\n$0\r\n\r\n$0\r\n\r\n:6\r\n:0\r\n"
    ++ codes "-ERR value is not an integer or out of range\r\n")
    ∷ []

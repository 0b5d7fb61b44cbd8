-- The lossy text of bytes, as bstr defines it, is the one that std defines.
use Rattle.bstr.proofs.lemmas.LossyLemmas.{lossy_chars-utf8_lossy}

pub ruleset lossy = (lossy_chars-utf8_lossy)

use Rattle.std.proofs.Common.{arith}
use Rattle.tables.proofs.Checks.{lines_right, count_told, counts_right, records_told, records_right, names_told, names_right, words_told, all_right}
use Rattle.tables.proofs.source.TableParts.check.Goals as goal

pub returns-in-Some : goal.returns-in-Some
returns-in-Some c = let t = c.args.self.now in
    let cs = t.counts.now in
    let rs = t.records.now in
    let ws = t.words.now in count_told cs rs ws _ (lines_right cs rs ws (omega arith) (omega arith)) c.in-Some.ensures

pub returns-then-self-gt2048 : goal.returns-then-self-gt2048
returns-then-self-gt2048 c =
    let t = c.args.self.now in
    let cs = t.counts.now in
    let rs = t.records.now in
    let ws = t.words.now in
    records_told cs rs ws (counts_right cs rs ws (lines_right cs rs ws (omega arith) (omega arith)) c.in_default.ensures) c.if-self-gt2048.true

pub returns-in-Some-first_bad_names : goal.returns-in-Some-first_bad_names
returns-in-Some-first_bad_names c =
    let t = c.args.self.now in
    let cs = t.counts.now in
    let rs = t.records.now in
    let ws = t.words.now in
    names_told cs rs ws _ (records_right cs rs ws (counts_right cs rs ws (lines_right cs rs ws (omega arith) (omega arith)) c.in_default.ensures) c.if-self-gt2048.false)
    c.in-Some-first_bad_names.ensures

pub returns-in-Some-first_bad_words : goal.returns-in-Some-first_bad_words
returns-in-Some-first_bad_words c =
    let t = c.args.self.now in
    let cs = t.counts.now in
    let rs = t.records.now in
    let ws = t.words.now in
    words_told cs rs ws _
    (names_right cs rs ws (records_right cs rs ws (counts_right cs rs ws (lines_right cs rs ws (omega arith) (omega arith)) c.in_default.ensures) c.if-self-gt2048.false) c.in_default-first_bad_names.ensures)
    c.in-Some-first_bad_words.ensures

pub returns : goal.returns
returns c =
    let t = c.args.self.now in
    let cs = t.counts.now in
    let rs = t.records.now in
    let ws = t.words.now in
    all_right cs rs ws
    (names_right cs rs ws (records_right cs rs ws (counts_right cs rs ws (lines_right cs rs ws (omega arith) (omega arith)) c.in_default.ensures) c.if-self-gt2048.false) c.in_default-first_bad_names.ensures)
    c.in_default-first_bad_words.ensures

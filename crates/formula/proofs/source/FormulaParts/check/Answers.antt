use Rattle.std.proofs.Common.{arith}
use Rattle.formula.proofs.Checks.{lines_right, span_told, spans_right, values_told, values_right, rules_told, rules_right, names_told, names_right, kind_told, kinds_right, range_told, all_right}
use Rattle.formula.proofs.source.FormulaParts.check.Goals as goal

pub returns-in-Some : goal.returns-in-Some
returns-in-Some c =
    let f = c.args.self.now in
    let ls = f.lines.now in
    let vs = f.values.now in
    let rs = f.rules.now in
    let two = lines_right ls vs rs (omega arith) (omega arith) in
    span_told ls vs rs _ two c.in-Some.ensures

pub returns-in-Some-first_bad_values : goal.returns-in-Some-first_bad_values
returns-in-Some-first_bad_values c =
    let f = c.args.self.now in
    let ls = f.lines.now in
    let vs = f.values.now in
    let rs = f.rules.now in
    let two = lines_right ls vs rs (omega arith) (omega arith) in
    let three = spans_right ls vs rs two c.in_default.ensures in
    values_told ls vs rs _ three c.in-Some-first_bad_values.ensures

pub returns-then-self-gt2048 : goal.returns-then-self-gt2048
returns-then-self-gt2048 c =
    let f = c.args.self.now in
    let ls = f.lines.now in
    let vs = f.values.now in
    let rs = f.rules.now in
    let two = lines_right ls vs rs (omega arith) (omega arith) in
    let three = spans_right ls vs rs two c.in_default.ensures in
    let four = values_right ls vs rs three c.in_default-first_bad_values.ensures in
    rules_told ls vs rs four c.if-self-gt2048.true

pub returns-in-Some-first_bad_names : goal.returns-in-Some-first_bad_names
returns-in-Some-first_bad_names c =
    let f = c.args.self.now in
    let ls = f.lines.now in
    let vs = f.values.now in
    let rs = f.rules.now in
    let two = lines_right ls vs rs (omega arith) (omega arith) in
    let three = spans_right ls vs rs two c.in_default.ensures in
    let four = values_right ls vs rs three c.in_default-first_bad_values.ensures in
    let five = rules_right ls vs rs four c.if-self-gt2048.false in
    names_told ls vs rs _ five c.in-Some-first_bad_names.ensures

pub returns-in-Some-first_bad_kind : goal.returns-in-Some-first_bad_kind
returns-in-Some-first_bad_kind c =
    let f = c.args.self.now in
    let ls = f.lines.now in
    let vs = f.values.now in
    let rs = f.rules.now in
    let two = lines_right ls vs rs (omega arith) (omega arith) in
    let three = spans_right ls vs rs two c.in_default.ensures in
    let four = values_right ls vs rs three c.in_default-first_bad_values.ensures in
    let five = rules_right ls vs rs four c.if-self-gt2048.false in
    let six = names_right ls vs rs five c.in_default-first_bad_names.ensures in
    kind_told ls vs rs _ six c.in-Some-first_bad_kind.ensures

pub returns-in-Some-first_bad_range : goal.returns-in-Some-first_bad_range
returns-in-Some-first_bad_range c =
    let f = c.args.self.now in
    let ls = f.lines.now in
    let vs = f.values.now in
    let rs = f.rules.now in
    let two = lines_right ls vs rs (omega arith) (omega arith) in
    let three = spans_right ls vs rs two c.in_default.ensures in
    let four = values_right ls vs rs three c.in_default-first_bad_values.ensures in
    let five = rules_right ls vs rs four c.if-self-gt2048.false in
    let six = names_right ls vs rs five c.in_default-first_bad_names.ensures in
    let seven = kinds_right ls vs rs six c.in_default-first_bad_kind.ensures in
    range_told ls vs rs _ seven c.in-Some-first_bad_range.ensures

pub returns : goal.returns
returns c =
    let f = c.args.self.now in
    let ls = f.lines.now in
    let vs = f.values.now in
    let rs = f.rules.now in
    let two = lines_right ls vs rs (omega arith) (omega arith) in
    let three = spans_right ls vs rs two c.in_default.ensures in
    let four = values_right ls vs rs three c.in_default-first_bad_values.ensures in
    let five = rules_right ls vs rs four c.if-self-gt2048.false in
    let six = names_right ls vs rs five c.in_default-first_bad_names.ensures in
    let seven = kinds_right ls vs rs six c.in_default-first_bad_kind.ensures in
    all_right ls vs rs seven c.in_default-first_bad_range.ensures

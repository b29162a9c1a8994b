pub mod FirstDeepExpression
